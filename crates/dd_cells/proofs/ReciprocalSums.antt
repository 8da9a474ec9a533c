-- The sums of the reciprocals of the degrees, cell by cell.
use Rattle.std.proofs.Common.{◌≡◌, ℕ, ◌+◌, ◌*◌, ◌/◌, ◌≤◌, true, List, [], ◌∷◌, ◌++◌, length, eqb, refl, sym, ap, ◌∙◌, arith}
use Rattle.std.specs.List.{Contains, sum_by, AllPass}
use Rattle.std.proofs.lemmas.Bool.{eqb-true}
use Rattle.std.proofs.lemmas.List.Elements.{All-contains}
use Rattle.std.proofs.lemmas.List.Sums.{sum_by_push, AllPass-from_list_all}
use Rattle.dd_model.specs.declared.pair.Pair.{Pair}
use Rattle.dd_model.specs.Symbol.{Symbol, IsSymbol, AreInvolutions, IsChamber, degree}
use Rattle.dd_model.specs.Code.{chambers, count_from}
use Rattle.dd_model.specs.Cell.{IsChain, IsBranching, IsLeastOfCell}
use Rattle.dd_model.proofs.Branching.{degree_same}
use Rattle.dd_model.proofs.CellLists.{AreCellsBelow, cells_below-start, cells_below-push, cells_below-skip, cells_below-end}
use Rattle.dd_model.proofs.CellWalks.{in_cell-refl}
use Rattle.dd_model.proofs.Transport.{in_cell_within}
use Rattle.dd_model.proofs.CountFrom.{count_contains}
use Rattle.dd_cells.specs.Cells.{AreMembers}
use Rattle.dd_cells.specs.Curvature.{IsReciprocalSum}
use Rattle.dd_cells.specs.Fraction.{Divides}
use Rattle.dd_cells.proofs.CellSizes.{chain_size, cycle_size}
use Rattle.dd_cells.proofs.CellSums.{AreRoots, has_roots, members_at, members_at_are, sum_over_cells, sum_by_same, chamber_listed}
use Rattle.dd_cells.proofs.MemberLemmas.{period_from_turns, value_positive}

-- ## Quotients

pub quotient_is : (q d n : ℕ) → 1 ≤ d → q * d ≡ n → n / d ≡ q
quotient_is q d n some e = grind arith

pub product_of_quotient : (d n : ℕ) → 1 ≤ d → Divides d n → n / d * d ≡ n
product_of_quotient d n some h = ap (λ q. q * d) (quotient_is h.quotient d n some h.product) ∙ h.product

-- the numbers 1 to 30 divide their least common multiple
pub divides_common : (v : ℕ) → 1 ≤ v → v ≤ 30 → Divides v 2329089562800
divides_common v low high =
    let all : AllPass (λ n. eqb (2329089562800 / n * n) 2329089562800) (count_from 1 30) =
    AllPass-from_list_all (λ n. eqb (2329089562800 / n * n) 2329089562800) (count_from 1 30) refl in
    record {
      quotient = 2329089562800 / v;
      product = eqb-true (2329089562800 / v * v) 2329089562800
          (All-contains (λ n. eqb (2329089562800 / n * n) 2329089562800 ≡ true) (count_from 1 30) v all (count_contains 1 30 v low (omega arith)));
    }

-- ## One cell

-- the products of the two sides, the size being sides * r and the degree v * r
balanced : (sides a b r v common whole size : ℕ) → a * v ≡ common → b * (v * r) ≡ whole → size ≡ sides * r
    → sides * a * whole ≡ common * (size * b)
balanced sides a b r v common whole size ea eb es =
    let left : sides * a * whole ≡ sides * a * (b * (v * r)) = ap (λ w. sides * a * w) (sym eb) in
    let right : common * (size * b) ≡ a * v * (sides * r * b) = ap (λ c. c * (size * b)) (sym ea) ∙ ap (λ n. a * v * (n * b)) es in
    let middle : sides * a * (b * (v * r)) ≡ a * v * (sides * r * b) = omega arith in
    left ∙ middle ∙ sym right

-- A cell with `sides` chambers for each turn has the sum sides/v.
pub cell_sum : (s : Symbol) → IsSymbol s → (p : Pair) (d v sides common : ℕ) (members : List ℕ) → IsChamber s d → (b : IsBranching s p d v)
    → AreMembers s p d members → length members ≡ sides * b.r → Divides v common → IsReciprocalSum s p members common (sides * (common / v))
cell_sum s is p d v sides common members h b are size whole_turns = record {
  value = λ whole divides.
      let m = degree s p d in
      let some = (is.degrees p d h).positive in
      let here = divides d ((are.each d).1 (in_cell-refl s p d)) in
      let same : (e : ℕ) → Contains members e → whole / degree s p e ≡ whole / m = λ e listed.
      let there = (are.each e).0 listed in
      ap (λ n. whole / n) (ap (degree s p) (sym there.leads) ∙ degree_same s is p there.word d h there.letters) in
      balanced sides (common / v) (whole / m) b.r v common whole (length members)
      (product_of_quotient v common (value_positive s is p d v h b) whole_turns)
      (ap (λ n. whole / m * n) b.quotient ∙ product_of_quotient m whole some here)
      size
      ∙ ap (λ n. common * n) (sym (sum_by_same (λ e. whole / degree s p e) (whole / m) members same));
}

pub chain_sum : (s : Symbol) → IsSymbol s → (p : Pair) (d v common : ℕ) (members : List ℕ) → IsChamber s d → IsBranching s p d v → IsChain s p d
    → AreMembers s p d members → Divides v common → IsReciprocalSum s p members common (1 * (common / v))
chain_sum s is p d v common members h b chain are whole =
    let inv = is.table.involutions in
    let size = chain_size s inv p d b.r members h (period_from_turns s inv p d b.r h b.least_turns) chain are in
    cell_sum s is p d v 1 common members h b are (omega arith) whole

pub cycle_sum : (s : Symbol) → IsSymbol s → (p : Pair) (d v common : ℕ) (members : List ℕ) → IsChamber s d → IsBranching s p d v → (IsChain s p d → ⊥)
    → AreMembers s p d members → Divides v common → IsReciprocalSum s p members common (2 * (common / v))
cycle_sum s is p d v common members h b cycle are whole =
    let inv = is.table.involutions in
    cell_sum s is p d v 2 common members h b are (cycle_size s inv p d b.r members h (period_from_turns s inv p d b.r h b.least_turns) cycle are) whole

-- ## All cells

-- the share of each chamber when the whole is cut into as many parts as its degree says
abbrev pub share : Symbol → Pair → ℕ → ℕ → ℕ
share s p whole d = whole / degree s p d

-- the sum over the cells of which the least chamber is at most k
pub record IsPartialSum (s : Symbol) (p : Pair) (common k sum : ℕ) : Type 0 where
  pub least : List ℕ
  pub cells : AreCellsBelow s p (k + 1) least
  pub value : (root : ℕ → ℕ) → AreRoots s p root → (whole : ℕ) → ((d : ℕ) → IsChamber s d → Divides (degree s p d) whole)
      → sum * whole ≡ common * sum_by (λ j. sum_by (share s p whole) (members_at s root j)) least
  pub small : sum ≤ k * (2 * common)

pub no_sum : (s : Symbol) (p : Pair) (common : ℕ) → IsPartialSum s p common 0 0
no_sum s p common = record {
  least = [];
  cells = cells_below-start s p;
  value = λ root roots whole divides. omega arith;
  small = omega arith;
}

pub sum_more : (s : Symbol) → AreInvolutions s → (p : Pair) (common k sum part : ℕ) → IsPartialSum s p common k sum → IsLeastOfCell s p (k + 1)
    → ((members : List ℕ) → AreMembers s p (k + 1) members → IsReciprocalSum s p members common part) → part ≤ 2 * common
    → IsPartialSum s p common (k + 1) (sum + part)
sum_more s inv p common k sum part is least adds low = record {
  least = is.least ++ (k + 1) ∷ [];
  cells = cells_below-push s p (k + 1) is.least least is.cells;
  value = λ root roots whole divides.
      let g : ℕ → ℕ = λ j. sum_by (share s p whole) (members_at s root j) in
      let are = members_at_are s inv p root roots (k + 1) least in
      let before = is.value root roots whole divides in
      let now : part * whole ≡ common * g (k + 1) =
      (adds (members_at s root (k + 1)) are).value whole (λ d listed. divides d (in_cell_within s inv p (k + 1) d least.0 ((are.each d).0 listed))) in
      let push = sum_by_push g is.least (k + 1) in
      joined sum part whole common (sum_by g is.least) (g (k + 1)) before now ∙ ap (λ n. common * n) (sym push);
  small = let small = is.small in omega arith;
}
  where
    joined : (a b w c x y : ℕ) → a * w ≡ c * x → b * w ≡ c * y → (a + b) * w ≡ c * (x + y)
    joined a b w c x y ex ey = omega arith

pub sum_same : (s : Symbol) (p : Pair) (common k sum : ℕ) → IsPartialSum s p common k sum → (IsLeastOfCell s p (k + 1) → ⊥) → IsPartialSum s p common (k + 1) sum
sum_same s p common k sum is other = record {
  least = is.least;
  cells = cells_below-skip s p (k + 1) is.least other is.cells;
  value = is.value;
  small = let small = is.small in omega arith;
}

pub whole_sum : (s : Symbol) → AreInvolutions s → (p : Pair) (common sum : ℕ) → IsPartialSum s p common s.size sum → IsReciprocalSum s p (chambers s) common sum
whole_sum s inv p common sum is = record {
  value = λ whole divides.
      let has = has_roots s inv p in
      is.value has.root has.are whole (λ d h. divides d (chamber_listed s d h))
      ∙ ap (λ n. common * n)
      (sum_over_cells s p has.root (share s p whole) is.least has.are (cells_below-end s p (s.size + 1) is.least (omega arith) is.cells));
}
