-- The number of sheets of a torus above an oriented symbol is a multiple of each branching value of the symbol.
use Rattle.std.proofs.Common.{◌≡◌, ℕ, ◌*◌, ◌≤◌, List, [], ◌∷◌, length, eqb, sym, ap, ◌∙◌, subst, ⊎_elim, arith}
use Rattle.std.proofs.lemmas.Bool.{cases_eq, ne_eqb}
use Rattle.std.proofs.lemmas.List.Sums.{sum_by-cons, length-filter}
use Rattle.std.specs.List.{Contains, sum_by}
use Rattle.dd_model.specs.declared.pair.Pair.{Pair}
use Rattle.dd_model.specs.Symbol.{Symbol, AreInvolutions, IsSymbol, IsChamber, item, degree}
use Rattle.dd_model.specs.Code.{chambers}
use Rattle.dd_model.specs.Cell.{InCell, IsLeastOfCell, IsBranching}
use Rattle.dd_model.specs.Isomorphic.{IsMorphism}
use Rattle.dd_model.proofs.Branching.{branching_exists, branching_same, degree-along_cell}
use Rattle.dd_model.proofs.CellLists.{cells_exist}
use Rattle.dd_model.proofs.CellSearch.{least_of_cell_unique}
use Rattle.dd_model.proofs.CellWalks.{in_cell-sym, in_cell-trans}
use Rattle.dd_model.proofs.CountFrom.{increasing-count_from}
use Rattle.dd_model.proofs.Lists.{Contains-head, Contains-later}
use Rattle.dd_model.proofs.Transport.{degree-along, in_cell-along, in_cell_within}
use Rattle.dd_cells.specs.Fraction.{Divides}
use Rattle.dd_cells.specs.Orientation.{IsOriented}
use Rattle.dd_cells.proofs.CellSizes.{cycle_size}
use Rattle.dd_cells.proofs.CellSums.{AreRoots, has_roots, members_at, members_at_are, sum_over_cells, sum_by_parts, sum_by_same, chamber_listed, listed_chamber}
use Rattle.dd_cells.proofs.FixedFlags.{one_if}
use Rattle.dd_cells.proofs.FractionLemmas.{same_factor}
use Rattle.dd_cells.proofs.MemberLemmas.{period_from_turns}
use Rattle.dd_covers.specs.Torus.{IsTorus}
use Rattle.dd_covers.proofs.ToldCells.{no_chain}
use Rattle.dd_crystal.specs.SheetCounts.{chambers_above, HasSheets}
use Rattle.dd_crystal.proofs.Fibers.{above_is}

-- terms that are k times others
sum_of_multiples : (k : ℕ) (g h : ℕ → ℕ) (xs : List ℕ) → ((x : ℕ) → Contains xs x → g x ≡ k * h x) → sum_by g xs ≡ k * sum_by h xs
sum_of_multiples k g h [] each = omega arith
sum_of_multiples k g h (x ∷ xs) each =
    let a = sum_by-cons g x xs in
    let b = ap (λ z. k * z) (sum_by-cons h x xs) in
    let here = each x (Contains-head x xs) in
    let rest = sum_of_multiples k g h xs (λ y later. each y (Contains-later x y xs later)) in
    omega arith

-- The chambers of a cell with branching value v, and of so many cells above it of value 1, against n sheets.
from_counts : (n v r c : ℕ) → 1 ≤ r → n * (2 * r) ≡ 2 * (v * r) * c → Divides v n
from_counts n v r c some e = record { quotient = c; product = same_factor (c * v) n (2 * r) (omega arith) (omega arith) }

module _ (s t : Symbol) (is : IsSymbol s) (oriented : IsOriented s) (torus : IsTorus t) (f : List ℕ) (m : IsMorphism t s f) (p : Pair) where
  abbrev inv : AreInvolutions s
  inv = is.table.involutions

  abbrev above : AreInvolutions t
  above = torus.symbol.table.involutions

  abbrev root : ℕ → ℕ
  root = (has_roots s inv p).root

  abbrev roots : AreRoots s p root
  roots = (has_roots s inv p).are

  abbrev root_above : ℕ → ℕ
  root_above = (has_roots t above p).root

  abbrev roots_above : AreRoots t p root_above
  roots_above = (has_roots t above p).are

  -- chambers of one cell have one least chamber
  same_root : (d e : ℕ) → IsChamber s d → InCell s p d e → root d ≡ root e
  same_root d e h there =
      let he = in_cell_within s inv p d e h there in
      least_of_cell_unique s inv p (root d) (root e) (roots.least d h) (roots.least e he)
      (in_cell-trans s p (root d) d (root e) (in_cell-sym s inv p d (root d) h (roots.in_cell d h)) (in_cell-trans s p d e (root e) there (roots.in_cell e he)))

  -- the size of a cell of the torus is twice its degree
  size_above : (j : ℕ) → IsLeastOfCell t p j → length (members_at t root_above j) ≡ 2 * degree t p j
  size_above j least =
      let b = branching_exists t torus.symbol p j least.0 in
      let one = (torus.smooth p).each j b.0 least.0 b.1 in
      let turns = ap (λ v. v * b.1.r) one in
      let whole = b.1.quotient in
      let size = cycle_size t above p j b.1.r (members_at t root_above j) least.0 (period_from_turns t above p j b.1.r least.0 b.1.least_turns)
      (no_chain t torus.symbol torus.oriented p j least.0) (members_at_are t above p root_above roots_above j least) in
      omega arith

  module _ (l v : ℕ) (least : IsLeastOfCell s p l) (b : IsBranching s p l v) (n : ℕ) (sheets : HasSheets s t f n) where
    -- whether a chamber lies in the cell
    abbrev inside : ℕ → ℕ
    inside d = one_if (eqb (root d) l)

    abbrev inside_above : ℕ → ℕ
    inside_above e = inside (item f e)

    cell_members : length (members_at s root l) ≡ 2 * b.r
    cell_members =
        cycle_size s inv p l b.r (members_at s root l) least.0 (period_from_turns s inv p l b.r least.0 b.least_turns)
        (no_chain s is oriented p l least.0) (members_at_are s inv p root roots l least)

    cell_total : sum_by inside (chambers s) ≡ 2 * b.r
    cell_total = sym (length-filter (λ d. eqb (root d) l) (chambers s)) ∙ cell_members

    -- counted by the chambers below
    by_sheets : sum_by inside_above (chambers t) ≡ n * (2 * b.r)
    by_sheets =
        let parts = sum_by_parts (item f) inside_above (chambers t) (chambers s) (increasing-count_from 1 s.size)
        (λ e listed. chamber_listed s (item f e) (m.within e (listed_chamber t e listed))) in
        let sums = sum_of_multiples n (λ d. sum_by inside_above (chambers_above t f d)) inside (chambers s) (λ d listed.
        let same = sum_by_same inside_above (inside d) (chambers_above t f d) (λ e here. ap inside (above_is s t inv above f m d e here).1) in
        same ∙ ap (λ z. z * inside d) (sheets.each d (listed_chamber s d listed))) in
        sym parts ∙ sums ∙ ap (λ z. n * z) cell_total

    -- a chamber above the cell has the degree of the cell
    degree_inside : (e : ℕ) → IsChamber t e → root (item f e) ≡ l → degree t p e ≡ v * b.r
    degree_inside e h same =
        let d = item f e in
        let hd = m.within e h in
        let there : InCell s p d l = subst (InCell s p d) same (roots.in_cell d hd) in
        sym (degree-along t s f m p e h) ∙ sym (degree-along_cell s is p d l hd there) ∙ sym b.quotient

    -- a cell of the torus lies above the cell as a whole, or not at all
    inside_cell : (j : ℕ) → IsLeastOfCell t p j → sum_by inside_above (members_at t root_above j) ≡ 2 * (v * b.r) * inside_above j
    inside_cell j at =
        let are = members_at_are t above p root_above roots_above j at in
        let same = sum_by_same inside_above (inside_above j) (members_at t root_above j) (λ e here.
        let there = in_cell-along t s f above m p j e at.0 ((are.each e).0 here) in
        ap (λ d. one_if (eqb d l)) (sym (same_root (item f j) (item f e) (m.within j at.0) there))) in
        let size = size_above j at in
        ⊎_elim
        (λ here.
        let degree_is = degree_inside j at.0 here in
        let counted : length (members_at t root_above j) ≡ 2 * (v * b.r) = omega arith in
        same ∙ ap (λ z. z * inside_above j) counted)
        (λ other.
        let none : inside_above j ≡ 0 = ap one_if (ne_eqb (root (item f j)) l other) in
        let left = ap (λ z. length (members_at t root_above j) * z) none in
        let right = ap (λ z. 2 * (v * b.r) * z) none in
        omega arith)
        (cases_eq (root (item f j)) l)

    -- counted by the cells of the torus
    by_cells : (js : List ℕ) → ((j : ℕ) → Contains js j → IsLeastOfCell t p j) → sum_by (λ j. sum_by inside_above (members_at t root_above j)) js
        ≡ 2 * (v * b.r) * sum_by inside_above js
    by_cells js each = sum_of_multiples (2 * (v * b.r)) (λ j. sum_by inside_above (members_at t root_above j)) inside_above js (λ j here. inside_cell j (each j here))

    divides_at_least : Divides v n
    divides_at_least =
        let cells = cells_exist t above p in
        let sums = sum_over_cells t p root_above inside_above cells.0 roots_above cells.1 in
        let counted = by_cells cells.0 (λ j here. (cells.1.members j).0 here) in
        from_counts n v b.r (sum_by inside_above cells.0) b.least_turns.positive (sym by_sheets ∙ sym sums ∙ counted)

  pub value_divides : (d v n : ℕ) → IsChamber s d → IsBranching s p d v → HasSheets s t f n → Divides v n
  value_divides d v n h b sheets =
      divides_at_least (root d) v (roots.least d h) (branching_same s is p d (root d) v h (roots.in_cell d h) b) n sheets
