-- Before any cell is settled, each wants its demand.
use Rattle.std.proofs.Common.{◌≡◌, ℕ, ◌+◌, ◌-◌, ◌/◌, ◌%◌, ◌<◌, ◌≤◌, Bool, List, length, map, replicate, slice_index, refl, sym, ap, ◌∙◌, subst, inl, arith}
use Rattle.std.proofs.lemmas.List.{length-replicate}
use Rattle.std.specs.List.{sum_by}
use Rattle.dd_model.specs.declared.index.Index.{Index}
use Rattle.dd_model.specs.declared.pair.Pair.{Pair}
use Rattle.dd_model.specs.Symbol.{Symbol, AreInvolutions, item, op}
use Rattle.dd_model.specs.Connected.{Connected}
use Rattle.dd_model.specs.Cell.{IsBranching, IsLeastOfCell}
use Rattle.dd_model.specs.Flat.{Flat}
use Rattle.dd_model.specs.Small.{IsSmallSymbol}
use Rattle.dd_model.proofs.Branching.{branching_exists}
use Rattle.dd_model.proofs.CellWalks.{in_cell-refl}
use Rattle.dd_model.proofs.Lists.{zero_at}
use Rattle.dd_cells.specs.Orientation.{IsOriented}
use Rattle.dd_cells.specs.declared.cell.Cell.{Cell}
use Rattle.dd_cells.proofs.CellSums.{sum_by_none}
use Rattle.dd_cells.proofs.ColoringLemmas.{by_index}
use Rattle.dd_cells.proofs.MemberLemmas.{value_positive}
use Rattle.dd_covers.specs.CellNumbers.{numbered, IsCellNumber}
use Rattle.dd_covers.specs.Joins.{AreWholeJoins}
use Rattle.dd_covers.specs.PlaneValues.{IsGreatestValue}
use Rattle.dd_covers.specs.Shifts.{shifts_by, shift, AreZeros}
use Rattle.dd_covers.specs.TorusCover.{AreColors}
use Rattle.dd_covers.specs.Visits.{IsVisitOrder}
use Rattle.dd_covers.specs.Wanting.{AreWanted}
use Rattle.dd_covers.specs.declared.join.Join.{Join}
use Rattle.dd_covers.specs.declared.shifts.Shifts.{Shifts}
use Rattle.dd_covers.proofs.Assembled.{number_of}
use Rattle.dd_covers.proofs.CellEquations.{outward, inward}
use Rattle.dd_covers.proofs.Congruences.{AreCongruent, mod_congruent}
use Rattle.dd_covers.proofs.Demands.{demand, demand_is, demands_none}
use Rattle.dd_covers.proofs.EulerLemmas.{all_cells}
use Rattle.dd_covers.proofs.Nodes.{decoded, decoded_at}
use Rattle.dd_covers.proofs.PlaneLemmas.{told_euler, least_of, euler_of}
use Rattle.dd_covers.proofs.PlaneUses.{plane_multiples}
use Rattle.dd_covers.proofs.SettleLemmas.{whites_of, IsSettling, IsUnderWay}
use Rattle.dd_covers.proofs.SheetLemmas.{mod_same}
use Rattle.dd_covers.proofs.ToldCells.{all_told}
use Rattle.dd_covers.proofs.Uniqueness.{sums_congruent}

pub are_zeros : (s : Symbol) (x : Shifts) (n : ℕ) → n ≡ s.size → x.x0.items ≡ replicate n 0 → x.x1.items ≡ replicate n 0 → x.x2.items ≡ replicate n 0 → AreZeros s x
are_zeros s x n size a b c =
    let all : (i : Index) → shifts_by x i ≡ replicate n 0 = by_index (λ i. shifts_by x i ≡ replicate n 0) a b c in
    record {
      lengths = λ i. ap length (all i) ∙ length-replicate n 0 ∙ size;
      each = λ i d. ap (λ xs. item xs d) (all i) ∙ zero_at n (d - 1);
    }

own_number : (s : Symbol) (p : Pair) (l : ℕ) → IsLeastOfCell s p l → IsCellNumber s p l (numbered s p l)
own_number s p l least = record { least = l; is_least = record { in_cell = in_cell-refl s p l; is_least = least }; number = refl }

module _ (s : Symbol) (small : IsSmallSymbol s) (connected : Connected s) (oriented : IsOriented s) (flat : Flat s) (k : ℕ) (great : IsGreatestValue s k) where
  abbrev inv : AreInvolutions s
  inv = small.symbol.table.involutions

  some : 1 ≤ k
  some = value_positive s small.symbol great.pair great.chamber k great.is_chamber great.branching

  high : k ≤ 30
  high = small.branching great.pair great.chamber k great.is_chamber great.branching

  abbrev ds : Pair → List ℕ
  ds p = map (λ (c : Cell). c.least) (all_told s small.symbol oriented p).cells

  module _ (b : List ℕ) (wanted : AreWanted s k b) where
    want_at : (p : Pair) (l v : ℕ) → IsLeastOfCell s p l → IsBranching s p l v → AreCongruent k (slice_index b (numbered s p l)) (k / v)
    want_at p l v least branching =
        let e = (wanted.each p l least.0).value (numbered s p l) v (own_number s p l least) branching in
        let m = mod_congruent k (k / v) in
        let q = m.equal in
        record { up = m.up; down = m.down; equal = omega arith }

    wants_total : AreCongruent k (sum_by (slice_index b) (all_cells s ds)) 0
    wants_total =
        let multiples = plane_multiples s small.symbol connected oriented flat k great in
        let wants = demand s small.symbol oriented flat k multiples in
        let none = demands_none s small.symbol oriented flat k multiples (λ p. (all_told s small.symbol oriented p).cells) (λ p. (all_told s small.symbol oriented p).are)
        (told_euler s (least_of s inv)) (euler_of s inv) in
        let sums = sums_congruent k (slice_index b) (decoded s wants) (all_cells s ds) (λ w here.
        let n = number_of s ds w here in
        let least = ((all_told s small.symbol oriented n.pair).are.least_chambers.members n.least).0 n.listed in
        let v = branching_exists s small.symbol n.pair n.least least.0 in
        let c = want_at n.pair n.least v.0 least v.1 in
        let q = c.equal in
        let own : decoded s wants w ≡ k / v.0 =
        ap (decoded s wants) (sym n.number) ∙ decoded_at s wants n.pair n.least least.0 ∙ demand_is s small.symbol oriented flat k multiples n.pair n.least v.0 least.0 v.1 in
        let at = ap (slice_index b) n.number in
        record { up = c.up; down = c.down; equal = omega arith }) in
        let p = sums.equal in
        let q = none.equal in
        record { up = sums.up + none.up; down = sums.down + none.down; equal = omega arith }

    settled_first : (white : List Bool) → AreColors s white → length white ≡ s.size → (f : List ℕ) (x : Shifts) → AreZeros s x → (js : List Join) → AreWholeJoins s f js → IsSettling s k white f x b js
    settled_first white colors long f x zeros js whole =
        let positive = some in
        record {
          small = small;
          some = some;
          high = high;
          are_colors = colors;
          colors = long;
          cells = ds;
          are_cells = λ p. (all_told s small.symbol oriented p).are.least_chambers;
          joins = whole.joins;
          sizes = zeros.lengths;
          below = λ i d h. subst (λ n. n < k) (sym (zeros.each i d)) some;
          opposite = λ i d h. ap (λ n. (n + shift x i (op s i d)) % k) (zeros.each i d) ∙ ap (λ n. (0 + n) % k) (zeros.each i (op s i d)) ∙ mod_same 0 k some;
          bearing = λ i d h. inl (zeros.each i d);
          waiting = λ j here. zeros.each j.side.index j.side.chamber;
          wants = wanted.size;
          few = wanted.few;
          equation = λ p l v least branching.
              let into : sum_by (shift x (inward p)) (whites_of s inv white p l) ≡ 0 = sum_by_none (shift x (inward p)) (whites_of s inv white p l) (λ d here. zeros.each (inward p) d) in
              let out : sum_by (shift x (outward p)) (whites_of s inv white p l) ≡ 0 = sum_by_none (shift x (outward p)) (whites_of s inv white p l) (λ d here. zeros.each (outward p) d) in
              let c = want_at p l v least branching in
              let q = c.equal in
              record { up = c.down; down = c.up; equal = omega arith };
          settled = λ p l least. inl (whole.all p l (numbered s p l) least.0 (own_number s p l least));
          total = wants_total;
        }

    pub under_way : (white : List Bool) → AreColors s white → length white ≡ s.size → (f : List ℕ) → IsVisitOrder s f → (x : Shifts) → AreZeros s x → (js : List Join) → AreWholeJoins s f js
        → IsUnderWay s k white x b js
    under_way white colors long f visits x zeros js whole = record { order = f; visits = visits; settling = settled_first white colors long f x zeros js whole }
