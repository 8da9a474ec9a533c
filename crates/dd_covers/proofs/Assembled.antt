-- The four rules have a solution: the values that the free sides need to meet the demands of the cells.
use Rattle.std.proofs.Common.{◌≡◌, ℕ, ◌+◌, ◌-◌, ◌*◌, ◌/◌, ◌%◌, ◌<◌, ◌≤◌, ℤ, Bool, true, false, not, cond, leb, eqb, List, [], ◌∷◌, ◌++◌, map, refl, sym, ap, ◌∙◌, subst, ⊎_elim, arith}
use Rattle.std.proofs.lemmas.Bool.{cases_lt, cases_eq, eq-eqb, le-leb, lt-leb}
use Rattle.std.proofs.lemmas.List.Elements.{Contains-append_left, Contains-append_right, Contains-append_cases}
use Rattle.std.proofs.lemmas.Nat.{mod_below}
use Rattle.std.specs.List.{Contains, filter, sum_by}
use Rattle.dd_model.specs.declared.index.Index.{Index}
use Rattle.dd_model.specs.declared.index.Index.TheVariants.{Zero, One, Two}
use Rattle.dd_model.specs.declared.pair.Pair.{Pair}
use Rattle.dd_model.specs.declared.pair.Pair.TheVariants.{Tile, Vertex, Edge}
use Rattle.dd_model.specs.Symbol.{Symbol, AreInvolutions, IsChamber, IsSymbol, op, power}
use Rattle.dd_model.specs.Code.{chambers}
use Rattle.dd_model.specs.Connected.{Connected}
use Rattle.dd_model.specs.Cell.{IsLeastTurns, IsBranching, AreCells}
use Rattle.dd_model.specs.Flat.{Flat}
use Rattle.dd_model.specs.FirstVisit.{IsNumberedFrom}
use Rattle.dd_model.proofs.Branching.{branching_same}
use Rattle.dd_model.proofs.CellWalks.{in_cell-sym}
use Rattle.dd_model.proofs.CellSearch.{least_of_cell_unique}
use Rattle.dd_model.proofs.Lists.{Contains-map}
use Rattle.dd_covers.proofs.Mapped.{Contains-from_map}
use Rattle.dd_model.proofs.Numberings.{numbered_from}
use Rattle.dd_cells.specs.Euler.{IsEuler}
use Rattle.dd_cells.specs.Orientation.{IsOriented, color}
use Rattle.dd_cells.proofs.MemberLemmas.{value_positive}
use Rattle.dd_cells.specs.declared.cell.Cell.{Cell}
use Rattle.dd_cells.proofs.CellSums.{AreRoots, has_roots, members_at, members_at_are, sum_by_listed, Contains-from_filter}
use Rattle.dd_covers.specs.Ends.{Holds, one_end, other_end}
use Rattle.dd_covers.specs.PlaneValues.{IsGreatestValue}
use Rattle.dd_covers.specs.TorusCover.{sum_along, round, AreColors, AreTorusShifts, HasTorusShifts}
use Rattle.dd_covers.specs.Visits.{rank, IsVisitOrder, IsFirstStep, IsFree, AreEndsJoined}
use Rattle.dd_covers.proofs.CellEquations.{outward, inward, rule_from_equation}
use Rattle.dd_covers.proofs.CellFlows.{least_side, flow, IsSide, cell_flow}
use Rattle.dd_covers.proofs.Congruences.{AreCongruent, both_ways, remainders, remainder_none, mod_congruent}
use Rattle.dd_covers.proofs.Demands.{demand, demand_is, demands_none}
use Rattle.dd_covers.proofs.EulerLemmas.{all_cells, all_ascending}
use Rattle.dd_covers.proofs.Labels.{Link, labels}
use Rattle.dd_covers.proofs.Levels.{one_value, one_holds, other_holds}
use Rattle.dd_covers.proofs.Nodes.{decoded, decoded_at}
use Rattle.dd_covers.specs.CellNumbers.{numbered}
use Rattle.dd_covers.proofs.OrderedSides.{value_for, no_value_for, sides_to, link, listed, label, label_of_cells, label_level, joined_none}
use Rattle.dd_covers.proofs.OrientedLemmas.{color_of}
use Rattle.dd_covers.proofs.SheetLemmas.{mod_same}
use Rattle.dd_covers.proofs.PlaneLemmas.{told_euler, least_of, euler_of}
use Rattle.dd_covers.proofs.PlaneUses.{plane_multiples}
use Rattle.dd_covers.proofs.Solving.{coming, going, AreMet, AreWithin, AddToNone, solve}
use Rattle.dd_covers.proofs.Spanning.{level_everywhere}
use Rattle.dd_covers.proofs.ToldCells.{all_told}
use Rattle.dd_covers.proofs.Trees.{Step}
use Rattle.dd_covers.proofs.Uniqueness.{sums_congruent}
use Rattle.dd_model.proofs.AllIndices.{index_low}

-- ## Colors with chamber 1 white

abbrev from_first : Bool → Bool → Bool
from_first true b = b
from_first false b = not b

turned_not : (a b c : Bool) → b ≡ not c → from_first a b ≡ not (from_first a c)
turned_not true b c e = e
turned_not false b c e = ap not e

first_white : (a : Bool) → from_first a a ≡ true
first_white true = refl
first_white false = refl

pub record HasColors (s : Symbol) : Type 0 where
  pub colors : List Bool
  pub are : AreColors s colors

pub has_colors : (s : Symbol) → AreInvolutions s → 1 ≤ s.size → IsOriented s → HasColors s
has_colors s inv some o =
    let a = color o.colors 1 in
    let c : ℕ → Bool = λ d. from_first (color o.colors 1) (color o.colors d) in
    record {
      colors = map c (chambers s);
      are = record {
        exchanged = λ i d h.
            let there = (inv i).within d h in
            color_of c s.size (op s i d) there.0 there.1 ∙ turned_not a (color o.colors (op s i d)) (color o.colors d) (o.exchanged i d h)
            ∙ ap not (sym (color_of c s.size d h.0 h.1));
        white = color_of c s.size 1 (omega arith) some ∙ first_white a;
      };
    }

-- ## Ends

pub one_outward : (p : Pair) → one_end (outward p) ≡ p
one_outward Tile = refl
one_outward Vertex = refl
one_outward Edge = refl

pub other_inward : (p : Pair) → other_end (inward p) ≡ p
other_inward Tile = refl
other_inward Vertex = refl
other_inward Edge = refl

pub outward_one : (j : Index) → outward (one_end j) ≡ j
outward_one Zero = refl
outward_one One = refl
outward_one Two = refl

pub inward_other : (j : Index) → inward (other_end j) ≡ j
inward_other Zero = refl
inward_other One = refl
inward_other Two = refl

module _ (s : Symbol) (inv : AreInvolutions s) (f : List ℕ) (root : Pair → ℕ → ℕ) (roots : (p : Pair) → AreRoots s p (root p)) where
  going_is : (es : List Step) (zs : List ℕ) (v : ℕ) → going (map (link s inv f root roots) es) zs v ≡ flow s root one_end es zs v
  going_is [] zs v = refl
  going_is (e ∷ es) [] v = refl
  going_is (e ∷ es) (z ∷ zs) v = ap (λ n. cond (eqb (numbered s (one_end e.index) (root (one_end e.index) e.chamber)) v) z 0 + n) (going_is es zs v)

  coming_is : (es : List Step) (zs : List ℕ) (v : ℕ) → coming (map (link s inv f root roots) es) zs v ≡ flow s root other_end es zs v
  coming_is [] zs v = refl
  coming_is (e ∷ es) [] v = refl
  coming_is (e ∷ es) (z ∷ zs) v = ap (λ n. cond (eqb (numbered s (other_end e.index) (root (other_end e.index) e.chamber)) v) z 0 + n) (coming_is es zs v)

-- a number of a cell, among those of all cells
pub number_listed : (s : Symbol) (ds : Pair → List ℕ) (p : Pair) (l : ℕ) → Contains (ds p) l → Contains (all_cells s ds) (numbered s p l)
number_listed s ds Tile l here =
    Contains-append_left (map (numbered s Tile) (ds Tile) ++ map (numbered s Vertex) (ds Vertex)) (map (numbered s Edge) (ds Edge)) (numbered s Tile l)
    (Contains-append_left (map (numbered s Tile) (ds Tile)) (map (numbered s Vertex) (ds Vertex)) (numbered s Tile l) (Contains-map (numbered s Tile) (ds Tile) l here))
number_listed s ds Vertex l here =
    Contains-append_left (map (numbered s Tile) (ds Tile) ++ map (numbered s Vertex) (ds Vertex)) (map (numbered s Edge) (ds Edge)) (numbered s Vertex l)
    (Contains-append_right (map (numbered s Tile) (ds Tile)) (map (numbered s Vertex) (ds Vertex)) (numbered s Vertex l) (Contains-map (numbered s Vertex) (ds Vertex) l here))
number_listed s ds Edge l here =
    Contains-append_right (map (numbered s Tile) (ds Tile) ++ map (numbered s Vertex) (ds Vertex)) (map (numbered s Edge) (ds Edge)) (numbered s Edge l)
    (Contains-map (numbered s Edge) (ds Edge) l here)

-- what stands among the numbers of all cells is one of a cell
pub record IsNumberOf (s : Symbol) (ds : Pair → List ℕ) (v : ℕ) : Type 0 where
  pub pair : Pair
  pub least : ℕ
  pub listed : Contains (ds pair) least
  pub number : numbered s pair least ≡ v

number_of_pair : (s : Symbol) (ds : Pair → List ℕ) (p : Pair) (v : ℕ) → Contains (map (numbered s p) (ds p)) v → IsNumberOf s ds v
number_of_pair s ds p v here = let from = Contains-from_map (numbered s p) (ds p) v here in record { pair = p; least = from.0; listed = from.1; number = from.2 }

pub number_of : (s : Symbol) (ds : Pair → List ℕ) (v : ℕ) → Contains (all_cells s ds) v → IsNumberOf s ds v
number_of s ds v here =
    ⊎_elim
    (λ front. ⊎_elim (number_of_pair s ds Tile v) (number_of_pair s ds Vertex v) (Contains-append_cases (map (numbered s Tile) (ds Tile)) (map (numbered s Vertex) (ds Vertex)) v front))
    (number_of_pair s ds Edge v)
    (Contains-append_cases (map (numbered s Tile) (ds Tile) ++ map (numbered s Vertex) (ds Vertex)) (map (numbered s Edge) (ds Edge)) v here)

pub least_side_turned : (s : Symbol) → AreInvolutions s → (i : Index) (d : ℕ) → IsChamber s d → least_side s i (op s i d) ≡ least_side s i d
least_side_turned s inv i d h =
    let c = op s i d in
    let back = (inv i).involutive d h in
    ap (λ z. cond (leb c z) c z) back
    ∙ ⊎_elim
    (λ low. ap (λ t. cond t c d) (le-leb c d (omega arith)) ∙ sym (ap (λ t. cond t d c) (lt-leb d c low)))
    (λ high. ⊎_elim
    (λ same. ap (λ z. cond (leb c z) c z) same ∙ sym (ap (λ z. cond (leb z c) z c) same))
    (λ more. ap (λ t. cond t c d) (lt-leb c d (omega (arith, more, high))) ∙ sym (ap (λ t. cond t d c) (le-leb d c high)))
    (cases_eq d c))
    (cases_lt c d)

-- ## The solution

module _ (s : Symbol) (is : IsSymbol s) (connected : Connected s) (oriented : IsOriented s) (flat : Flat s) (k : ℕ) (some : 1 ≤ k) (great : IsGreatestValue s k) where
  abbrev inv : AreInvolutions s
  inv = is.table.involutions

  one_chamber : IsChamber s 1
  one_chamber = (omega arith, is.table.chambers)

  abbrev visits : (t : Symbol) × IsNumberedFrom s 1 t
  visits = numbered_from s 1 is.table connected one_chamber

  abbrev f : List ℕ
  f = visits.1.map

  are_visits : IsVisitOrder s f
  are_visits = record { numbered = visits.0; is = visits.1; map = refl }

  abbrev root : Pair → ℕ → ℕ
  root p = (has_roots s inv p).root

  abbrev roots : (p : Pair) → AreRoots s p (root p)
  roots p = (has_roots s inv p).are

  abbrev cells : Pair → List Cell
  cells p = (all_told s is oriented p).cells

  abbrev ds : Pair → List ℕ
  ds p = map (λ (c : Cell). c.least) (cells p)

  are_cells : (p : Pair) → AreCells s p (ds p)
  are_cells p = (all_told s is oriented p).are.least_chambers

  abbrev top : ℕ
  top = 3 * (s.size + 1)

  abbrev sides : List Step
  sides = sides_to s inv f root roots top

  abbrev joins : List Link
  joins = map (link s inv f root roots) sides

  abbrev vs : List ℕ
  vs = all_cells s ds

  abbrev wants : Pair → ℕ → ℕ
  wants = demand s is oriented flat k (plane_multiples s is connected oriented flat k great)

  below_top : (i : Index) (d : ℕ) → IsChamber s d → rank i d < top
  below_top i d h = let p = index_low i in let up = h.1 in omega arith

  root_listed : (p : Pair) (d : ℕ) → IsChamber s d → Contains vs (numbered s p (root p d))
  root_listed p d h = number_listed s ds p (root p d) (((are_cells p).members (root p d)).1 ((roots p).least d h))

  ends_within : AreWithin joins vs
  ends_within e here =
      let from = Contains-from_map (link s inv f root roots) sides e here in
      let free = (listed s inv f root roots top from.0 from.1).free in
      subst (λ (y : Link). Contains vs y.from × Contains vs y.to) from.2
      (root_listed (one_end from.0.index) from.0.chamber free.chamber, root_listed (other_end from.0.index) from.0.chamber free.chamber)

  -- all cells are joined
  one_label : (p : Pair) (d : ℕ) → IsChamber s d → label s inv f root roots top p d ≡ label s inv f root roots top Tile 1
  one_label p d h =
      let of_cells = label_of_cells s inv f root roots top in
      one_value s inv (label s inv f root roots top) of_cells
      (level_everywhere s is.table connected f are_visits (label s inv f root roots top) of_cells (λ j e free. label_level s inv f root roots top j e free (below_top j e free.chamber)))
      is.table.chambers connected p d h

  label_of_number : (v : ℕ) → Contains vs v → labels joins v ≡ label s inv f root roots top Tile 1
  label_of_number v here =
      let n = number_of s ds v here in
      let least = ((are_cells n.pair).members n.least).0 n.listed in
      let own : root n.pair n.least ≡ n.least = sym (least_of_cell_unique s inv n.pair n.least (root n.pair n.least) least ((roots n.pair).least n.least least.0) ((roots n.pair).in_cell n.least least.0)) in
      ap (labels joins) (sym n.number ∙ ap (numbered s n.pair) (sym own)) ∙ one_label n.pair n.least least.0

  none_over : (number : ℤ) → IsEuler s number → AddToNone k joins vs (decoded s wants)
  none_over number e v here =
      let c = demands_none s is oriented flat k (plane_multiples s is connected oriented flat k great) cells (λ p. (all_told s is oriented p).are) number e in
      let p = c.equal in
      let same = sum_by_listed (λ w. cond (eqb (labels joins w) (labels joins v)) (decoded s wants w) 0) (decoded s wants) vs
      (λ w there. ap (λ t. cond t (decoded s wants w) 0) (eq-eqb (labels joins w) (labels joins v) (label_of_number w there ∙ sym (label_of_number v here)))) in
      record { up = c.up; down = c.down; equal = omega arith }

  module _ (m : AreMet k joins vs (decoded s wants)) where
    abbrev colors : List Bool
    colors = (has_colors s inv is.table.chambers oriented).colors

    abbrev white : ℕ → Bool
    white d = color colors d

    abbrev are_colors : AreColors s colors
    are_colors = (has_colors s inv is.table.chambers oriented).are

    abbrev worth : Index → ℕ → ℕ
    worth i d = value_for sides m.values i (least_side s i d)

    abbrev shift : Index → ℕ → ℕ
    shift i d = cond (white d) (worth i d % k) ((k - worth i d % k) % k)

    shift_below : (i : Index) (d : ℕ) → shift i d < k
    shift_below i d = elim (white d) as (λ t. cond t (worth i d % k) ((k - worth i d % k) % k) < k) [ true ↦ mod_below (worth i d) k some | false ↦ mod_below (k - worth i d % k) k some ]

    shift_opposite : (i : Index) (d : ℕ) → IsChamber s d → (shift i d + shift i (op s i d)) % k ≡ 0
    shift_opposite i d h =
        let low = mod_below (worth i d) k some in
        let same : worth i (op s i d) ≡ worth i d = ap (value_for sides m.values i) (least_side_turned s inv i d h) in
        let far = are_colors.exchanged i d h in
        let n = worth i d % k in
        let there : shift i (op s i d) ≡ cond (not (white d)) n ((k - n) % k) =
        ap (λ t. cond t (worth i (op s i d) % k) ((k - worth i (op s i d) % k) % k)) far ∙ ap (λ y. cond (not (white d)) (y % k) ((k - y % k) % k)) same in
        ap (λ y. (shift i d + y) % k) there ∙ sum_of (white d) n low where
          sum_of : (t : Bool) (n : ℕ) → n < k → (cond t n ((k - n) % k) + cond (not t) n ((k - n) % k)) % k ≡ 0
          sum_of true n low = both_ways k n low
          sum_of false n low = let e : (k - n) % k + n ≡ n + (k - n) % k = omega arith in ap (λ y. y % k) e ∙ both_ways k n low

    no_shift : (i : Index) (d : ℕ) → worth i d ≡ 0 → shift i d ≡ 0
    no_shift i d none =
        let zero_rest : 0 % k ≡ 0 = mod_same 0 k some in
        let whole_rest : (k - 0) % k ≡ 0 = let e : k - 0 ≡ 0 + k = omega arith in remainder_none k (k - 0) (record { up = 0; down = 1; equal = omega arith }) in
        let n : worth i d % k ≡ 0 = ap (λ y. y % k) none ∙ zero_rest in
        ap (λ y. cond (white d) y ((k - y) % k)) n ∙ elim (white d) as (λ t. cond t 0 ((k - 0) % k) ≡ 0) [ true ↦ refl | false ↦ whole_rest ]

    shift_first : (i : Index) (d : ℕ) → IsChamber s d → IsFirstStep s f i d → shift i d ≡ 0
    shift_first i d h first =
        no_shift i d (no_value_for sides m.values i (least_side s i d) (λ e here both.
        let free = (listed s inv f root roots top e here).free in
        let own : IsFree s f i (least_side s i d) = subst (λ j. IsFree s f j (least_side s i d)) both.0 (subst (IsFree s f e.index) both.1 free) in
        ⊎_elim
        (λ low.
        let at : least_side s i d ≡ op s i d = ap (λ t. cond t d (op s i d)) (lt-leb d (op s i d) low) in
        (subst (IsFree s f i) at own).back (subst (IsFirstStep s f i) (sym ((inv i).involutive d h)) first))
        (λ more.
        let at : least_side s i d ≡ d = ap (λ t. cond t d (op s i d)) (le-leb d (op s i d) more) in
        (subst (IsFree s f i) at own).there first)
        (cases_lt (op s i d) d)))

    shift_joined : (i : Index) (d : ℕ) → IsFree s f i d → AreEndsJoined s f i d → shift i d ≡ 0
    shift_joined i d free joined =
        let at : least_side s i d ≡ d = ap (λ t. cond t d (op s i d)) (le-leb d (op s i d) free.least) in
        no_shift i d (ap (value_for sides m.values i) at ∙ joined_none s inv f root roots k top m.values i d m.are free (below_top i d free.chamber) joined)

    -- at the white chambers of a cell
    white_shifts : (i : Index) (members : List ℕ) → AreCongruent k (sum_by (shift i) (filter white members)) (sum_by (worth i) (filter white members))
    white_shifts i members =
        sums_congruent k (shift i) (worth i) (filter white members) (λ d here.
        let yes_ = (Contains-from_filter white members d here).1 in
        let c = mod_congruent k (worth i d) in
        let e = c.equal in
        let same : shift i d ≡ worth i d % k = ap (λ t. cond t (worth i d % k) ((k - worth i d % k) % k)) yes_ in
        record { up = c.up; down = c.down; equal = omega arith })

    side_of_listed : (e : Step) → Contains sides e → IsSide s e
    side_of_listed e here = let free = (listed s inv f root roots top e here).free in record { chamber = free.chamber; least = free.least }

    shift_rounds : (p : Pair) (d r v : ℕ) → IsChamber s d → color colors d ≡ true → IsLeastTurns s p d r → IsBranching s p d v
        → sum_along s shift (power (round p) r) d % k ≡ k / v % k
    shift_rounds p d r v h is_white turns b =
        let l = root p d in
        let least = (roots p).least d h in
        let members = members_at s (root p) l in
        let are = members_at_are s inv p (root p) (roots p) l least in
        let down = (roots p).in_cell d h in
        let near = in_cell-sym s inv p d l h down in
        let share = demand_is s is oriented flat k (plane_multiples s is connected oriented flat k great) p l v least.0 (branching_same s is p d l v h down b) in
        let met = m.met (numbered s p l) (root_listed p d h) in
        let needed = decoded_at s wants p l least.0 in
        let into = coming_is s inv f root roots sides m.values (numbered s p l) in
        let out = going_is s inv f root roots sides m.values (numbered s p l) in
        let flow_in = cell_flow s inv root roots white are_colors.exchanged other_end p (inward p) (other_inward p)
        (λ j differ at. differ (sym (inward_other j) ∙ ap inward at)) (subst (λ q. Holds q (inward p)) (other_inward p) (other_holds (inward p))) l least members are sides m.values side_of_listed in
        let flow_out = cell_flow s inv root roots white are_colors.exchanged one_end p (outward p) (one_outward p)
        (λ j differ at. differ (sym (outward_one j) ∙ ap outward at)) (subst (λ q. Holds q (outward p)) (one_outward p) (one_holds (outward p))) l least members are sides m.values side_of_listed in
        let shifts_in = white_shifts (inward p) members in
        let shifts_out = white_shifts (outward p) members in
        let e = met.equal in
        let a = shifts_in.equal in
        let c = shifts_out.equal in
        remainders k (sum_along s shift (power (round p) r) d) (k / v)
        (rule_from_equation s is k shift colors are_colors.exchanged shift_opposite p l d r (k / v) h is_white turns least.0 near members are
        (record { up = shifts_in.up + met.up + shifts_out.down; down = shifts_in.down + met.down + shifts_out.up; equal = omega arith }))

    the_shifts : AreTorusShifts s k shift
    the_shifts = record {
      below = λ i d h. shift_below i d;
      colors = colors;
      are_colors = are_colors;
      order = f;
      visits = are_visits;
      opposite = shift_opposite;
      rounds = shift_rounds;
      first_steps = shift_first;
      joined = shift_joined;
    }

pub shifts_exist : (s : Symbol) → IsSymbol s → Connected s → IsOriented s → Flat s → (k : ℕ) → IsGreatestValue s k → HasTorusShifts s k
shifts_exist s is connected oriented flat k great =
    let inv = is.table.involutions in
    let some = value_positive s is great.pair great.chamber k great.is_chamber great.branching in
    let e = euler_of s inv in
    let m =
    solve k some (joins s is connected oriented flat k some great) (vs s is connected oriented flat k some great)
    (all_ascending s inv (ds s is connected oriented flat k some great) (are_cells s is connected oriented flat k some great))
    (ends_within s is connected oriented flat k some great)
    (decoded s (wants s is connected oriented flat k some great))
    (none_over s is connected oriented flat k some great (told_euler s (least_of s inv)) e) in
    record { shifts = shift s is connected oriented flat k some great m; are = the_shifts s is connected oriented flat k some great m }
