-- The four rules have one solution at most: from the last free side back, two solutions are equal at each side.
use Rattle.std.proofs.Common.{◌≡◌, ℕ, zero, suc, ◌+◌, ◌*◌, ◌≤◌, ◌⊎◌, Bool, true, false, not, cond, List, [], ◌∷◌, refl, sym, ap, ◌∙◌, subst, inl, inr, ⊎_elim, arith}
use Rattle.std.proofs.lemmas.Bool.{cases_Bool, cases_lt, cases_order}
use Rattle.std.proofs.lemmas.List.Sums.{sum_by-cons}
use Rattle.std.specs.List.{Contains, filter, sum_by}
use Rattle.std.specs.List.Sorted.{IsStrictlyIncreasing}
use Rattle.dd_model.specs.declared.index.Index.{Index}
use Rattle.dd_model.specs.declared.index.Index.TheVariants.{Zero, One, Two}
use Rattle.dd_model.specs.declared.pair.Pair.{Pair}
use Rattle.dd_model.specs.declared.pair.Pair.TheVariants.{Tile, Vertex, Edge}
use Rattle.dd_model.specs.Symbol.{Symbol, IsChamber, IsSymbol, Word, op, act}
use Rattle.dd_model.specs.Code.{chambers}
use Rattle.dd_model.specs.Connected.{Connected}
use Rattle.dd_model.specs.Cell.{IsWordOf, IsLeastOfCell}
use Rattle.dd_model.proofs.Branching.{branching_exists}
use Rattle.dd_model.proofs.CellLists.{cells_exist, increasing-head, increasing-tail}
use Rattle.dd_model.proofs.CountFrom.{increasing-count_from}
use Rattle.dd_model.proofs.Transport.{in_cell_within}
use Rattle.dd_model.proofs.Lists.{Contains-none, Contains-head, Contains-later, Contains-cases}
use Rattle.dd_cells.specs.Orientation.{color}
use Rattle.dd_cells.proofs.CellSums.{sum_by_listed, has_roots, members_at, members_at_are, sum_over_cells, sum_by_both, chamber_listed, listed_chamber}
use Rattle.dd_covers.specs.Ends.{one_end, other_end, IsOfCells, IsLevel}
use Rattle.dd_covers.specs.PlaneValues.{IsGreatestValue}
use Rattle.dd_covers.specs.Sheets.{sheets_of, below_sheets}
use Rattle.dd_covers.specs.TorusCover.{AreTorusShifts, IsTorusCoverOf}
use Rattle.dd_covers.specs.Visits.{rank, IsFirstStep, IsFree, AreEndsJoined}
use Rattle.dd_covers.proofs.CellEquations.{outward, inward, cell_equation}
use Rattle.dd_covers.proofs.Congruences.{AreCongruent, congruent_same, congruent_times, remainders, no_remainder}
use Rattle.dd_covers.proofs.FreeSides.{before_from_rank, AreParted, joined_or_parted, decide_free, decide_first, order_unique}
use Rattle.dd_covers.proofs.Levels.{level_beside, one_holds, other_holds}
use Rattle.dd_covers.proofs.SheetLemmas.{mod_same, shifts_same}
use Rattle.dd_covers.proofs.WhiteSums.{whites}
use Rattle.dd_model.specs.Indices.{index_number}
use Rattle.dd_model.proofs.AllIndices.{index_low, index_same}

-- ## Sums

-- two functions that are equal but at one member
sum_except : (F G : ℕ → ℕ) (xs : List ℕ) (a : ℕ) → IsStrictlyIncreasing xs → Contains xs a → ((x : ℕ) → Contains xs x → (x ≡ a → ⊥) → F x ≡ G x)
    → sum_by F xs + G a ≡ sum_by G xs + F a
sum_except F G [] a up here same = absurd (Contains-none a here)
sum_except F G (x ∷ xs) a up here same =
    let sf = sum_by-cons F x xs in
    let sg = sum_by-cons G x xs in
    ⊎_elim
    (λ at.
    let fa = ap F at in
    let ga = ap G at in
    let rest = sum_by_listed F G xs (λ y later. same y (Contains-later x y xs later) (λ e. let above = increasing-head x y xs up later in absurd (omega arith))) in
    omega arith)
    (λ later.
    let rest = sum_except F G xs a (increasing-tail x xs up) later (λ y here. same y (Contains-later x y xs here)) in
    let head = same x (Contains-head x xs) (λ e. let above = increasing-head x a xs up later in absurd (omega arith)) in
    omega arith)
    (Contains-cases x a xs here)

pub sums_congruent : (k : ℕ) (F G : ℕ → ℕ) (xs : List ℕ) → ((x : ℕ) → Contains xs x → AreCongruent k (F x) (G x)) → AreCongruent k (sum_by F xs) (sum_by G xs)
sums_congruent k F G [] same = congruent_same k (sum_by F []) (sum_by G []) refl
sums_congruent k F G (x ∷ xs) same =
    let here = same x (Contains-head x xs) in
    let rest = sums_congruent k F G xs (λ y later. same y (Contains-later x y xs later)) in
    let sf = sum_by-cons F x xs in
    let sg = sum_by-cons G x xs in
    let p = here.equal in
    let q = rest.equal in
    record { up = here.up + rest.up; down = here.down + rest.down; equal = omega arith }

-- the white ones count, by a weight that is one for all
weighed : (white : ℕ → Bool) (h a b : ℕ → ℕ) (w : ℕ) (xs : List ℕ) → ((x : ℕ) → Contains xs x → h x ≡ w)
    → sum_by (λ x. cond (white x) (h x * (a x + b x)) 0) xs ≡ w * (sum_by a (filter white xs) + sum_by b (filter white xs))
weighed white h a b w [] same = omega arith
weighed white h a b w (x ∷ xs) same =
    let split = sum_by-cons (λ y. cond (white y) (h y * (a y + b y)) 0) x xs in
    let rest = weighed white h a b w xs (λ y later. same y (Contains-later x y xs later)) in
    let here = ap (λ z. z * (a x + b x)) (same x (Contains-head x xs)) in
    ⊎_elim
    (λ yes.
    let one : cond (white x) (h x * (a x + b x)) 0 ≡ h x * (a x + b x) = ap (λ t. cond t (h x * (a x + b x)) 0) yes in
    let sa : sum_by a (filter white (x ∷ xs)) ≡ a x + sum_by a (filter white xs) =
    ap (λ t. sum_by a (cond t (x ∷ filter white xs) (filter white xs))) yes ∙ sum_by-cons a x (filter white xs) in
    let sb : sum_by b (filter white (x ∷ xs)) ≡ b x + sum_by b (filter white xs) =
    ap (λ t. sum_by b (cond t (x ∷ filter white xs) (filter white xs))) yes ∙ sum_by-cons b x (filter white xs) in
    let whole = ap (λ z. w * z) sa in
    let other = ap (λ z. w * z) sb in
    omega arith)
    (λ no_.
    let none : cond (white x) (h x * (a x + b x)) 0 ≡ 0 = ap (λ t. cond t (h x * (a x + b x)) 0) no_ in
    let sa : sum_by a (filter white (x ∷ xs)) ≡ sum_by a (filter white xs) = ap (λ t. sum_by a (cond t (x ∷ filter white xs) (filter white xs))) no_ in
    let sb : sum_by b (filter white (x ∷ xs)) ≡ sum_by b (filter white xs) = ap (λ t. sum_by b (cond t (x ∷ filter white xs) (filter white xs))) no_ in
    let whole = ap (λ z. w * z) sa in
    let other = ap (λ z. w * z) sb in
    omega arith)
    (cases_Bool (white x))

filter_same : (p q : ℕ → Bool) (xs : List ℕ) → ((x : ℕ) → Contains xs x → p x ≡ q x) → filter p xs ≡ filter q xs
filter_same p q [] same = refl
filter_same p q (x ∷ xs) same =
    let rest = filter_same p q xs (λ y later. same y (Contains-later x y xs later)) in
    ap (λ t. cond t (x ∷ filter p xs) (filter p xs)) (same x (Contains-head x xs)) ∙ ap (λ ys. cond (q x) (x ∷ ys) ys) rest

-- of an unequal or an equal end
term : (a b u v : ℕ) → (a ≡ b) ⊎ (u ≡ v) → a * v + b * u ≡ a * u + b * v
term a b u v (inl e) = let p = ap (λ z. z * v) e in let q = ap (λ z. z * u) e in omega arith
term a b u v (inr e) = let p = ap (λ z. a * z) e in let q = ap (λ z. b * z) e in omega arith

module _ (s : Symbol) (is : IsSymbol s) (all : Connected s) (k : ℕ) (x y : Index → ℕ → ℕ) (sx : AreTorusShifts s k x) (sy : AreTorusShifts s k y) where
  abbrev white : ℕ → Bool
  white d = color sx.colors d

  same_color_along : (w : Word) (d : ℕ) → IsChamber s d → color sy.colors d ≡ color sx.colors d → color sy.colors (act s w d) ≡ color sx.colors (act s w d)
  same_color_along [] d h e = e
  same_color_along (i ∷ w) d h e =
      same_color_along w (op s i d) ((is.table.involutions i).within d h) (sy.are_colors.exchanged i d h ∙ ap not e ∙ sym (sx.are_colors.exchanged i d h))

  same_color : (d : ℕ) → IsChamber s d → color sy.colors d ≡ white d
  same_color d h =
      let there = all d h in
      subst (λ z. color sy.colors z ≡ color sx.colors z) there.leads
      (same_color_along there.word 1 (omega arith, is.table.chambers) (sy.are_colors.white ∙ sym sx.are_colors.white))

  same_order : sy.order ≡ sx.order
  same_order = order_unique s is.table all sy.order sx.order sy.visits sx.visits

  -- congruent shifts are equal
  congruent_shifts : (i : Index) (d : ℕ) → IsChamber s d → AreCongruent k (x i d) (y i d) → x i d ≡ y i d
  congruent_shifts i d h c = sym (mod_same (x i d) k (sx.below i d h)) ∙ remainders k (x i d) (y i d) c ∙ mod_same (y i d) k (sy.below i d h)

  equal_beside : (i : Index) (d : ℕ) → IsChamber s d → x i d ≡ y i d → x i (op s i d) ≡ y i (op s i d)
  equal_beside i d h e =
      let a = no_remainder k (x i d + x i (op s i d)) (sx.opposite i d h) in
      let b = no_remainder k (y i d + y i (op s i d)) (sy.opposite i d h) in
      let p = a.equal in
      let q = b.equal in
      congruent_shifts i (op s i d) ((is.table.involutions i).within d h) (record { up = a.up + b.down; down = a.down + b.up; equal = omega arith })

  equal_first : (i : Index) (d : ℕ) → IsChamber s d → IsFirstStep s sx.order i d → x i d ≡ y i d
  equal_first i d h first = sx.first_steps i d h first ∙ sym (sy.first_steps i d h (subst (λ f. IsFirstStep s f i d) (sym same_order) first))

  equal_joined : (i : Index) (d : ℕ) → IsFree s sx.order i d → AreEndsJoined s sx.order i d → x i d ≡ y i d
  equal_joined i d free joined =
      sx.joined i d free joined
      ∙ sym (sy.joined i d (subst (λ f. IsFree s f i d) (sym same_order) free) (subst (λ f. AreEndsJoined s f i d) (sym same_order) joined))

  -- a side that is not free has no shift
  equal_not_free : (i : Index) (d : ℕ) → IsChamber s d → d ≤ op s i d → (IsFree s sx.order i d → ⊥) → x i d ≡ y i d
  equal_not_free i d h low bound =
      let inv = is.table.involutions in
      let there = (inv i).within d h in
      ⊎_elim
      (λ first. equal_first i d h first)
      (λ none. ⊎_elim
      (λ first. ap (x i) (sym ((inv i).involutive d h)) ∙ equal_beside i (op s i d) there (equal_first i (op s i d) there first) ∙ ap (y i) ((inv i).involutive d h))
      (λ neither. absurd (bound (record { chamber = h; least = low; there = none; back = neither })))
      (decide_first s inv sx.order i (op s i d) there))
      (decide_first s inv sx.order i d h)

  -- ## The equations of the cells, for both

  module _ (h : Pair → ℕ → ℕ) (cells : IsOfCells s h) where
    abbrev F : Pair → ℕ → ℕ
    F p d = cond (white d) (h p d * (x (inward p) d + y (outward p) d)) 0

    abbrev G : Pair → ℕ → ℕ
    G p d = cond (white d) (h p d * (x (outward p) d + y (inward p) d)) 0

    abbrev roots_of : (p : Pair) → ℕ → ℕ
    roots_of p = (has_roots s is.table.involutions p).root

    root_value : (p : Pair) (l : ℕ) → IsLeastOfCell s p l → (e : ℕ) → Contains (members_at s (roots_of p) l) e → h p e ≡ h p l
    root_value p l least e here =
        let are = members_at_are s is.table.involutions p (roots_of p) (has_roots s is.table.involutions p).are l least in
        let there = (are.each e).0 here in
        along there.word l least.0 there.letters there.leads where
          along : (w : Word) (d : ℕ) → IsChamber s d → IsWordOf p w → {z : ℕ} → act s w d ≡ z → h p z ≡ h p d
          along [] d hd letters leads = ap (h p) (sym leads)
          along (i ∷ w) d hd letters leads = along w (op s i d) ((is.table.involutions i).within d hd) letters.1 leads ∙ cells p i d hd letters.0

    at_cell : (p : Pair) (l : ℕ) → IsLeastOfCell s p l → AreCongruent k (sum_by (F p) (members_at s (roots_of p) l)) (sum_by (G p) (members_at s (roots_of p) l))
    at_cell p l least =
        let members = members_at s (roots_of p) l in
        let are = members_at_are s is.table.involutions p (roots_of p) (has_roots s is.table.involutions p).are l least in
        let b = branching_exists s is p l least.0 in
        let ex = cell_equation s is k x sx p l b.0 least.0 b.1 members are in
        let ey = cell_equation s is k y sy p l b.0 least.0 b.1 members are in
        let ws = filter white members in
        let same : whites (color sy.colors) members ≡ ws =
        filter_same (color sy.colors) white members (λ e here. same_color e (in_cell_within s is.table.involutions p l e least.0 ((are.each e).0 here))) in
        let iny = ap (sum_by (y (inward p))) same in
        let outy = ap (sum_by (y (outward p))) same in
        let left = weighed white (h p) (x (inward p)) (y (outward p)) (h p l) members (root_value p l least) in
        let right = weighed white (h p) (x (outward p)) (y (inward p)) (h p l) members (root_value p l least) in
        let px = ex.equal in
        let py = ey.equal in
        let cross : AreCongruent k (sum_by (x (inward p)) ws + sum_by (y (outward p)) ws) (sum_by (x (outward p)) ws + sum_by (y (inward p)) ws) =
        record { up = ex.up + ey.down; down = ex.down + ey.up; equal = omega arith } in
        let times = congruent_times k _ _ (h p l) cross in
        let t = times.equal in
        record { up = times.up; down = times.down; equal = omega arith }

    over_pair : (p : Pair) → AreCongruent k (sum_by (F p) (chambers s)) (sum_by (G p) (chambers s))
    over_pair p =
        let ds = cells_exist s is.table.involutions p in
        let roots = (has_roots s is.table.involutions p).are in
        let left = sum_over_cells s p (roots_of p) (F p) ds.0 roots ds.1 in
        let right = sum_over_cells s p (roots_of p) (G p) ds.0 roots ds.1 in
        let c = sums_congruent k (λ l. sum_by (F p) (members_at s (roots_of p) l)) (λ l. sum_by (G p) (members_at s (roots_of p) l)) ds.0 (λ l here. at_cell p l ((ds.1.members l).0 here)) in
        let e = c.equal in
        record { up = c.up; down = c.down; equal = omega arith }

    abbrev FF : ℕ → ℕ
    FF d = F Tile d + F Vertex d + F Edge d

    abbrev GG : ℕ → ℕ
    GG d = G Tile d + G Vertex d + G Edge d

    over_all : AreCongruent k (sum_by FF (chambers s)) (sum_by GG (chambers s))
    over_all =
        let a = over_pair Tile in
        let b = over_pair Vertex in
        let c = over_pair Edge in
        let f1 = sum_by_both (λ d. F Tile d + F Vertex d) (F Edge) (chambers s) in
        let f2 = sum_by_both (F Tile) (F Vertex) (chambers s) in
        let g1 = sum_by_both (λ d. G Tile d + G Vertex d) (G Edge) (chambers s) in
        let g2 = sum_by_both (G Tile) (G Vertex) (chambers s) in
        let p = a.equal in
        let q = b.equal in
        let r = c.equal in
        record { up = a.up + b.up + c.up; down = a.down + b.down + c.down; equal = omega arith }

    abbrev IsSettled : Index → ℕ → Type 0
    IsSettled i d = IsLevel h i d ⊎ (x i d ≡ y i d)

    f_white : (p : Pair) (d : ℕ) → white d ≡ true → F p d ≡ h p d * (x (inward p) d + y (outward p) d)
    f_white p d w = ap (λ t. cond t (h p d * (x (inward p) d + y (outward p) d)) 0) w

    g_white : (p : Pair) (d : ℕ) → white d ≡ true → G p d ≡ h p d * (x (outward p) d + y (inward p) d)
    g_white p d w = ap (λ t. cond t (h p d * (x (outward p) d + y (inward p) d)) 0) w

    settled : (d : ℕ) → (white d ≡ true → (i : Index) → IsSettled i d) → FF d ≡ GG d
    settled d same =
        ⊎_elim
        (λ w.
        let zero = term (h Tile d) (h Edge d) (x Zero d) (y Zero d) (same w Zero) in
        let one = term (h Vertex d) (h Tile d) (x One d) (y One d) (same w One) in
        let two = term (h Edge d) (h Vertex d) (x Two d) (y Two d) (same w Two) in
        let ft = f_white Tile d w in
        let fv = f_white Vertex d w in
        let fe = f_white Edge d w in
        let gt = g_white Tile d w in
        let gv = g_white Vertex d w in
        let ge = g_white Edge d w in
        omega arith)
        (λ b.
        let ft : F Tile d ≡ 0 = ap (λ t. cond t (h Tile d * (x One d + y Zero d)) 0) b in
        let fv : F Vertex d ≡ 0 = ap (λ t. cond t (h Vertex d * (x Two d + y One d)) 0) b in
        let fe : F Edge d ≡ 0 = ap (λ t. cond t (h Edge d * (x Zero d + y Two d)) 0) b in
        let gt : G Tile d ≡ 0 = ap (λ t. cond t (h Tile d * (x Zero d + y One d)) 0) b in
        let gv : G Vertex d ≡ 0 = ap (λ t. cond t (h Vertex d * (x One d + y Two d)) 0) b in
        let ge : G Edge d ≡ 0 = ap (λ t. cond t (h Edge d * (x Two d + y Zero d)) 0) b in
        omega arith)
        (cases_Bool (white d))

    -- the difference at the chamber where one involution is not settled
    unsettled : (i : Index) (d : ℕ) → white d ≡ true → h (one_end i) d ≡ 1 → h (other_end i) d ≡ 0 → ((j : Index) → (j ≡ i → ⊥) → IsSettled j d)
        → AreCongruent k (GG d) (FF d) → AreCongruent k (x i d) (y i d)
    unsettled Zero d w a b same c =
        let one = term (h Vertex d) (h Tile d) (x One d) (y One d) (same One (λ e. cc)) in
        let two = term (h Edge d) (h Vertex d) (x Two d) (y Two d) (same Two (λ e. cc)) in
        let ft = f_white Tile d w in
        let fv = f_white Vertex d w in
        let fe = f_white Edge d w in
        let gt = g_white Tile d w in
        let gv = g_white Vertex d w in
        let ge = g_white Edge d w in
        let a1 = ap (λ z. z * x Zero d) a in
        let a2 = ap (λ z. z * y Zero d) a in
        let b1 = ap (λ z. z * x Zero d) b in
        let b2 = ap (λ z. z * y Zero d) b in
        let e = c.equal in
        record { up = c.up; down = c.down; equal = omega arith }
    unsettled One d w a b same c =
        let zero = term (h Tile d) (h Edge d) (x Zero d) (y Zero d) (same Zero (λ e. cc)) in
        let two = term (h Edge d) (h Vertex d) (x Two d) (y Two d) (same Two (λ e. cc)) in
        let ft = f_white Tile d w in
        let fv = f_white Vertex d w in
        let fe = f_white Edge d w in
        let gt = g_white Tile d w in
        let gv = g_white Vertex d w in
        let ge = g_white Edge d w in
        let a1 = ap (λ z. z * x One d) a in
        let a2 = ap (λ z. z * y One d) a in
        let b1 = ap (λ z. z * x One d) b in
        let b2 = ap (λ z. z * y One d) b in
        let e = c.equal in
        record { up = c.up; down = c.down; equal = omega arith }
    unsettled Two d w a b same c =
        let zero = term (h Tile d) (h Edge d) (x Zero d) (y Zero d) (same Zero (λ e. cc)) in
        let one = term (h Vertex d) (h Tile d) (x One d) (y One d) (same One (λ e. cc)) in
        let ft = f_white Tile d w in
        let fv = f_white Vertex d w in
        let fe = f_white Edge d w in
        let gt = g_white Tile d w in
        let gv = g_white Vertex d w in
        let ge = g_white Edge d w in
        let a1 = ap (λ z. z * x Two d) a in
        let a2 = ap (λ z. z * y Two d) a in
        let b1 = ap (λ z. z * x Two d) b in
        let b2 = ap (λ z. z * y Two d) b in
        let e = c.equal in
        record { up = c.up; down = c.down; equal = omega arith }

    -- where all other sides are settled, so is one at which the function differs
    last_side : (i : Index) (d : ℕ) → IsChamber s d → white d ≡ true → h (one_end i) d ≡ 1 → h (other_end i) d ≡ 0
        → ((j : Index) (e : ℕ) → IsChamber s e → white e ≡ true → ((j ≡ i) × (e ≡ d) → ⊥) → IsSettled j e) → x i d ≡ y i d
    last_side i d hd w a b others =
        let same : (e : ℕ) → Contains (chambers s) e → (e ≡ d → ⊥) → FF e ≡ GG e = λ e here differ.
        settled e (λ yes j. others j e (listed_chamber s e here) yes (λ both. differ both.1)) in
        let total = sum_except FF GG (chambers s) d (increasing-count_from 1 s.size) (chamber_listed s d hd) same in
        let c = over_all in
        let e = c.equal in
        let back : AreCongruent k (GG d) (FF d) = record { up = c.down; down = c.up; equal = omega arith } in
        congruent_shifts i d hd (unsettled i d w a b (λ j differ. others j d hd w (λ both. differ both.0)) back)

  -- ## From the last free side back

  abbrev Later : ℕ → Type 0
  Later fuel = (i : Index) (d : ℕ) → IsFree s sx.order i d → 3 * (s.size + 1) ≤ fuel + rank i d → x i d ≡ y i d

  module _ (fuel : ℕ) (later : Later fuel) (i : Index) (d : ℕ) (free : IsFree s sx.order i d) (enough : 3 * (s.size + 1) ≤ suc fuel + rank i d)
      (parted : AreParted s sx.order i d) where
    settle_least : (j : Index) (e : ℕ) → IsChamber s e → e ≤ op s j e → ((j ≡ i) × (e ≡ d) → ⊥) → IsLevel parted.part j e ⊎ (x j e ≡ y j e)
    settle_least j e h low apart =
        ⊎_elim
        (λ own. ⊎_elim
        (λ same.
        let pi = index_low i in
        let pj = index_low j in
        let at : e ≡ d = omega arith in
        let place : index_number j ≡ index_number i = omega arith in
        absurd (apart (index_same j i place, at)))
        (λ other. ⊎_elim
        (λ less. inl (parted.level j e own (before_from_rank i j d e less)))
        (λ more. inr (later j e own (omega arith)))
        other)
        (cases_order (rank j e) (rank i d)))
        (λ bound. inr (equal_not_free j e h low bound))
        (decide_free s is.table.involutions sx.order j e)

    settle : (j : Index) (e : ℕ) → IsChamber s e → ((j ≡ i) × (e ≡ d) → ⊥) → ((j ≡ i) × (op s j e ≡ d) → ⊥) → IsLevel parted.part j e ⊎ (x j e ≡ y j e)
    settle j e h apart beside =
        let inv = is.table.involutions in
        let there = (inv j).within e h in
        ⊎_elim
        (λ low.
        let up : op s j e ≤ op s j (op s j e) = subst (λ z. op s j e ≤ z) (sym ((inv j).involutive e h)) (omega arith) in
        ⊎_elim
        (λ level. inl (level_beside s inv parted.part parted.of_cells j e h level))
        (λ same. inr (ap (x j) (sym ((inv j).involutive e h)) ∙ equal_beside j (op s j e) there same ∙ ap (y j) ((inv j).involutive e h)))
        (settle_least j (op s j e) there up beside))
        (λ high. settle_least j e h high apart)
        (cases_lt (op s j e) e)

    last_parted : x i d ≡ y i d
    last_parted =
        let inv = is.table.involutions in
        let h = free.chamber in
        let there = (inv i).within d h in
        ⊎_elim
        (λ w. last_side parted.part parted.of_cells i d h w parted.one parted.other
        (λ j e he we differ. settle j e he differ
        (λ both.
        let at : op s i e ≡ d = ap (λ a. op s a e) (sym both.0) ∙ both.1 in
        let back : e ≡ op s i d = sym ((inv i).involutive e he) ∙ ap (op s i) at in
        let black : white e ≡ false = ap white back ∙ sx.are_colors.exchanged i d h ∙ ap not w in
        absurd (cc))))
        (λ b.
        let w : white (op s i d) ≡ true = sx.are_colors.exchanged i d h ∙ ap not b in
        let at_image = last_side parted.part parted.of_cells i (op s i d) there w
        (parted.of_cells (one_end i) i d h (one_holds i) ∙ parted.one) (parted.of_cells (other_end i) i d h (other_holds i) ∙ parted.other)
        (λ j e he we differ. settle j e he
        (λ both. let black : white e ≡ false = ap white both.1 ∙ b in absurd (cc))
        (λ both.
        let at : op s i e ≡ d = ap (λ a. op s a e) (sym both.0) ∙ both.1 in
        let back : e ≡ op s i d = sym ((inv i).involutive e he) ∙ ap (op s i) at in
        differ (both.0, back))) in
        ap (x i) (sym ((inv i).involutive d h)) ∙ equal_beside i (op s i d) there at_image ∙ ap (y i) ((inv i).involutive d h))
        (cases_Bool (white d))

  equal_free : (fuel : ℕ) → Later fuel
  equal_free zero i d free enough = let high = free.chamber.1 in let p = index_low i in absurd (omega arith)
  equal_free (suc fuel) i d free enough =
      let roots = λ (p : Pair). has_roots s is.table.involutions p in
      ⊎_elim
      (λ joined. equal_joined i d free joined)
      (λ parted. last_parted fuel (equal_free fuel) i d free enough parted)
      (joined_or_parted s is.table.involutions sx.order (λ p. (roots p).root) (λ p. (roots p).are) i d free.chamber)

  equal_least : (i : Index) (d : ℕ) → IsChamber s d → d ≤ op s i d → x i d ≡ y i d
  equal_least i d h low =
      ⊎_elim
      (λ free. equal_free (3 * (s.size + 1)) i d free (omega arith))
      (λ bound. equal_not_free i d h low bound)
      (decide_free s is.table.involutions sx.order i d)

  pub shifts_unique : (i : Index) (d : ℕ) → IsChamber s d → x i d ≡ y i d
  shifts_unique i d h =
      let inv = is.table.involutions in
      let there = (inv i).within d h in
      ⊎_elim
      (λ low.
      let up : op s i d ≤ op s i (op s i d) = subst (λ z. op s i d ≤ z) (sym ((inv i).involutive d h)) (omega arith) in
      ap (x i) (sym ((inv i).involutive d h)) ∙ equal_beside i (op s i d) there (equal_least i (op s i d) there up) ∙ ap (y i) ((inv i).involutive d h))
      (λ high. equal_least i d h high)
      (cases_lt (op s i d) d)

-- ## One cover

pub same_greatest : (s : Symbol) (k j : ℕ) → IsGreatestValue s k → IsGreatestValue s j → k ≡ j
same_greatest s k j a b =
    let low = b.greatest a.pair a.chamber k a.is_chamber a.branching in
    let high = a.greatest b.pair b.chamber j b.is_chamber b.branching in
    omega arith

pub one_below : (s t u : Symbol) (k j : ℕ) (below lower : List ℕ) → IsTorusCoverOf s k t below → IsTorusCoverOf s j u lower → below ≡ lower
one_below s t u k j below lower a b = a.is_below ∙ ap (below_sheets s) (same_greatest s k j a.greatest b.greatest) ∙ sym b.is_below

pub one_cover : (s t u : Symbol) (k j : ℕ) (below lower : List ℕ) → IsSymbol s → Connected s → IsTorusCoverOf s k t below → IsTorusCoverOf s j u lower → t ≡ u
one_cover s t u k j below lower is all a b =
    let e = same_greatest s k j a.greatest b.greatest in
    let other : AreTorusShifts s k b.shifts = subst (λ n. AreTorusShifts s n b.shifts) (sym e) b.are_shifts in
    a.cover ∙ shifts_same s k a.shifts b.shifts (shifts_unique s is all k a.shifts b.shifts a.are_shifts other) ∙ ap (λ n. sheets_of s n b.shifts) e ∙ sym b.cover
