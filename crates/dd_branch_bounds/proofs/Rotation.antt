-- How many chambers a cell has: at most twice its degree, and at most its degree where an involution fixes one of them.
use Rattle.std.proofs.Common.{◌≡◌, ℕ, ◌+◌, ◌-◌, ◌*◌, ◌≤◌, cond, ltb, List, length, ap, ◌∙◌, ⊎_elim, arith}
use Rattle.std.proofs.lemmas.Bool.{lt-ltb, le-ltb}
use Rattle.std.specs.List.{AllByRecursion}
use Rattle.dd_model.specs.declared.pair.Pair.{Pair}
use Rattle.dd_model.specs.Symbol.{Symbol, IsSymbol, IsChamber, first, op, degree}
use Rattle.dd_model.specs.Cell.{InCell, IsChain, IsPeriod, turned}
use Rattle.dd_model.proofs.CellWalks.{IsMet, met_from_in_cell}
use Rattle.dd_model.proofs.Turns.{period_exists}
use Rattle.dd_cells.proofs.ChainLemmas.{place_in_chain}
use Rattle.dd_branch_tables.specs.Distinct.{AreDistinct}
use Rattle.dd_branch_tables.proofs.Distinct.{Hits, distinct_values, all_map}

-- the least number of turns that fixes a chamber, which is at most the degree
record HasRounds (s : Symbol) (p : Pair) (d : ℕ) : Type 0 where
  pub turns : ℕ
  pub period : IsPeriod s p d turns
  pub below : turns ≤ degree s p d

has_rounds : (s : Symbol) → IsSymbol s → (p : Pair) (d : ℕ) → IsChamber s d → HasRounds s p d
has_rounds s is p d h =
    let has = is.degrees p d h in
    let r = period_exists s p d (degree s p d) has.positive has.turns in
    record { turns = r.0; period = r.1; below = r.1.least (degree s p d) has.positive has.turns }

-- at the first r places what turns reach, at the next r their first neighbors
abbrev both : Symbol → Pair → ℕ → ℕ → ℕ → ℕ
both s p d r k = cond (ltb k r) (turned s p k d) (op s (first p) (turned s p (k - r) d))

hit : (s : Symbol) (p : Pair) (d r x : ℕ) → IsMet s p d r x → Hits (both s p d r) (2 * r) x
hit s p d r x met =
    let k = met.turns in
    let low = met.below in
    let at : (j : ℕ) → ℕ = λ j. op s (first p) (turned s p j d) in
    ⊎_elim
    (λ here. record {
      place = k;
      below = omega arith;
      there = ap (λ b. cond b (turned s p k d) (at (k - r))) (lt-ltb k r low) ∙ here;
    })
    (λ beside.
    let less : r + k - r ≡ k = omega arith in
    record {
      place = r + k;
      below = omega arith;
      there = ap (λ b. cond b (turned s p (r + k) d) (at (r + k - r))) (le-ltb (r + k) r (omega arith)) ∙ ap at less ∙ beside;
    })
    met.place

-- Different chambers of a cell are at most twice the degree.
pub cell_bound : (s : Symbol) → IsSymbol s → (p : Pair) (d : ℕ) → IsChamber s d → (es : List ℕ) → AreDistinct es → AllByRecursion (InCell s p d) es → length es ≤ 2 * degree s p d
cell_bound s is p d h es apart inside =
    let rounds = has_rounds s is p d h in
    let r = rounds.turns in
    let low = rounds.below in
    let bound = distinct_values (both s p d r) (2 * r) es apart
    (all_map (InCell s p d) (Hits (both s p d r) (2 * r)) (λ x there. hit s p d r x (met_from_in_cell s is.table.involutions p d r x h rounds.period there)) es inside) in
    omega arith

-- Different chambers of a chain are at most as many as the degree.
pub chain_bound : (s : Symbol) → IsSymbol s → (p : Pair) (d : ℕ) → IsChamber s d → IsChain s p d → (es : List ℕ) → AreDistinct es → AllByRecursion (InCell s p d) es → length es ≤ degree s p d
chain_bound s is p d h chain es apart inside =
    let rounds = has_rounds s is p d h in
    let r = rounds.turns in
    let low = rounds.below in
    let bound = distinct_values (λ k. turned s p k d) r es apart
    (all_map (InCell s p d) (Hits (λ k. turned s p k d) r)
    (λ x there.
    let place = place_in_chain s is.table.involutions p d r x h rounds.period chain there in
    record { place = place.turns; below = place.below; there = place.leads })
    es inside) in
    omega arith
