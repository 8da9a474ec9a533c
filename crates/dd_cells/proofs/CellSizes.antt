-- A cycle has two chambers for each turn, a chain one.
use Rattle.std.proofs.Common.{◌≡◌, ℕ, ◌+◌, ◌-◌, ◌*◌, ◌<◌, ◌≤◌, ◌⊎◌, List, length, sym, ap, ◌∙◌, inl, inr, ⊎_elim, arith}
use Rattle.std.proofs.lemmas.Bool.{cases_lt}
use Rattle.dd_model.specs.declared.pair.Pair.{Pair}
use Rattle.dd_model.specs.Symbol.{Symbol, AreInvolutions, IsChamber, first, op}
use Rattle.dd_model.specs.Code.{count_from}
use Rattle.dd_model.specs.Cell.{InCell, IsChain, turned, IsPeriod}
use Rattle.dd_model.proofs.CellWalks.{IsMet, met_from_in_cell, in_cell-turned, in_cell-first}
use Rattle.dd_model.proofs.Counts.{length-le_from_partners}
use Rattle.dd_model.proofs.Turns.{turned_within}
use Rattle.dd_model.proofs.CountFrom.{within_count, count_contains, increasing-count_from, length-count_from}
use Rattle.dd_cells.specs.Cells.{AreMembers}
use Rattle.dd_cells.proofs.ChainLemmas.{turns_unique, place_in_chain, apart_in_cycle}

-- ## Chains

pub chain_size : (s : Symbol) → AreInvolutions s → (p : Pair) (d r : ℕ) (members : List ℕ) → IsChamber s d → IsPeriod s p d r → IsChain s p d → AreMembers s p d members → length members ≡ r
chain_size s inv p d r members h period chain are =
    let size = length-count_from 0 r in
    let most : length members ≤ length (count_from 0 r) =
    length-le_from_partners (λ e k. turned s p k d ≡ e) members (count_from 0 r) are.ascending
    (λ e listed.
    let place = place_in_chain s inv p d r e h period chain ((are.each e).0 listed) in
    (place.turns, count_contains 0 r place.turns (omega arith) (let below = place.below in omega arith), place.leads))
    (λ x y k lx ly ex ey. sym ex ∙ ey) in
    let least : length (count_from 0 r) ≤ length members =
    length-le_from_partners (λ k e. turned s p k d ≡ e) (count_from 0 r) members (increasing-count_from 0 r)
    (λ k listed. (turned s p k d, (are.each (turned s p k d)).1 (in_cell-turned s p d k), λ i. turned s p k d))
    (λ i j e li lj ei ej.
    let wi = within_count 0 r i li in
    let wj = within_count 0 r j lj in
    turns_unique s inv p d r i j h period (omega (arith, wi.1)) (omega (arith, wj.1)) (ei ∙ sym ej)) in
    omega arith

-- ## Cycles

-- place number k of the 2 r places of a cycle: the turned chambers, and then their first neighbors
abbrev IsNumber : Symbol → Pair → ℕ → ℕ → ℕ → ℕ → Type 0
IsNumber s p d r k e = ((k < r) × (turned s p k d ≡ e)) ⊎ ((r ≤ k) × (op s (first p) (turned s p (k - r) d) ≡ e))

place_number : (s : Symbol) (p : Pair) (d r e : ℕ) → IsMet s p d r e → (k : ℕ) × (k < r + r) × IsNumber s p d r k e
place_number s p d r e met =
    let below = met.below in
    ⊎_elim
    (λ here. (met.turns, omega arith, inl (below, here)))
    (λ beside.
    let back : met.turns + r - r ≡ met.turns = omega arith in
    (met.turns + r, omega arith, inr (omega arith, ap (λ k. op s (first p) (turned s p k d)) back ∙ beside)))
    met.place

numbers_agree : (s : Symbol) → AreInvolutions s → (p : Pair) (d r i j e : ℕ) → IsChamber s d → IsPeriod s p d r → (IsChain s p d → ⊥)
    → i < r + r → j < r + r → IsNumber s p d r i e → IsNumber s p d r j e → i ≡ j
numbers_agree s inv p d r i j e h period cycle li lj a b =
    ⊎_elim
    (λ ai. ⊎_elim
    (λ bj. turns_unique s inv p d r i j h period ai.0 bj.0 (ai.1 ∙ sym bj.1))
    (λ bj. let low = ai.0 in let high = bj.0 in absurd (apart_in_cycle s inv p d r (j - r) i h period cycle (omega arith) low (bj.1 ∙ sym ai.1)))
    b)
    (λ ai. ⊎_elim
    (λ bj. let high = ai.0 in let low = bj.0 in absurd (apart_in_cycle s inv p d r (i - r) j h period cycle (omega arith) low (ai.1 ∙ sym bj.1)))
    (λ bj.
    let hi = ai.0 in
    let hj = bj.0 in
    let x = turned s p (i - r) d in
    let y = turned s p (j - r) d in
    let f = first p in
    let same : x ≡ y =
    sym ((inv f).involutive x (turned_within s inv p (i - r) d h)) ∙ ap (op s f) (ai.1 ∙ sym bj.1) ∙ (inv f).involutive y (turned_within s inv p (j - r) d h) in
    let equal = turns_unique s inv p d r (i - r) (j - r) h period (omega arith) (omega arith) same in
    omega arith)
    b)
    a

member_of_number : (s : Symbol) (p : Pair) (d r k : ℕ) → (e : ℕ) × InCell s p d e × IsNumber s p d r k e
member_of_number s p d r k =
    ⊎_elim
    (λ low. (turned s p k d, in_cell-turned s p d k, inl (low, λ i. turned s p k d)))
    (λ high. (op s (first p) (turned s p (k - r) d), in_cell-first s p d (turned s p (k - r) d) (in_cell-turned s p d (k - r)), inr (high, λ i. op s (first p) (turned s p (k - r) d))))
    (cases_lt k r)

number_at_one_place : (s : Symbol) (p : Pair) (d r k x y : ℕ) → IsNumber s p d r k x → IsNumber s p d r k y → x ≡ y
number_at_one_place s p d r k x y a b =
    ⊎_elim
    (λ ax. ⊎_elim (λ by. sym ax.1 ∙ by.1) (λ by. let low = ax.0 in let high = by.0 in absurd (omega arith)) b)
    (λ ax. ⊎_elim (λ by. let high = ax.0 in let low = by.0 in absurd (omega arith)) (λ by. sym ax.1 ∙ by.1) b)
    a

pub cycle_size : (s : Symbol) → AreInvolutions s → (p : Pair) (d r : ℕ) (members : List ℕ) → IsChamber s d → IsPeriod s p d r → (IsChain s p d → ⊥) → AreMembers s p d members → length members ≡ 2 * r
cycle_size s inv p d r members h period cycle are =
    let size = length-count_from 0 (r + r) in
    let most : length members ≤ length (count_from 0 (r + r)) =
    length-le_from_partners (λ e k. IsNumber s p d r k e) members (count_from 0 (r + r)) are.ascending
    (λ e listed.
    let n = place_number s p d r e (met_from_in_cell s inv p d r e h period ((are.each e).0 listed)) in
    (n.0, count_contains 0 (r + r) n.0 (omega arith) (let below = n.1 in omega arith), n.2))
    (λ x y k lx ly ex ey. number_at_one_place s p d r k x y ex ey) in
    let least : length (count_from 0 (r + r)) ≤ length members =
    length-le_from_partners (λ k e. IsNumber s p d r k e) (count_from 0 (r + r)) members (increasing-count_from 0 (r + r))
    (λ k listed. let m = member_of_number s p d r k in (m.0, (are.each m.0).1 m.1, m.2))
    (λ i j e li lj ei ej.
    let wi = within_count 0 (r + r) i li in
    let wj = within_count 0 (r + r) j lj in
    numbers_agree s inv p d r i j e h period cycle (omega (arith, wi.1)) (omega (arith, wj.1)) ei ej) in
    omega arith
