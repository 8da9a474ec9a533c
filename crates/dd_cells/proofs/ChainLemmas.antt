-- Turns in a cell: those of a chain reach the whole cell, and those of a cycle never meet a first neighbor.
use Rattle.std.proofs.Common.{◌≡◌, ℕ, zero, suc, ◌+◌, ◌-◌, ◌*◌, ◌/◌, ◌%◌, ◌<◌, ◌≤◌, refl, sym, ap, ◌∙◌, subst, inl, inr, ⊎_elim, arith}
use Rattle.std.proofs.lemmas.Bool.{cases_lt}
use Rattle.dd_model.specs.declared.pair.Pair.{Pair}
use Rattle.dd_model.specs.Symbol.{Symbol, AreInvolutions, IsChamber, first, second, turn, op, act}
use Rattle.dd_model.specs.Cell.{InCell, IsChain, turned, IsPeriod}
use Rattle.dd_model.proofs.Turns.{turned_within, turned-suc, turned-last, turned-add, turned-mul, turned_apart}
use Rattle.dd_model.proofs.CellWalks.{met_from_in_cell, in_cell-first, in_cell-trans, in_cell-turned}

-- ## Where a first neighbor is met by turns

-- If turns of x lead to its first neighbor, an involution fixes a chamber of the cell.
pub chain_from_reflection : (s : Symbol) → AreInvolutions s → (p : Pair) (d x m : ℕ) → IsChamber s x → InCell s p d x
    → op s (first p) x ≡ turned s p m x → IsChain s p d
chain_from_reflection s inv p d x zero h there e = record { chamber = x; in_cell = there; fixed = inl e }
chain_from_reflection s inv p d x (suc zero) h there e = record {
  chamber = op s (first p) x;
  in_cell = in_cell-first s p d x there;
  fixed = inr (sym e);
}
chain_from_reflection s inv p d x (suc (suc m)) h there e =
    let i = first p in
    let j = second p in
    let x' = op s j (op s i x) in
    let h' = (inv j).within (op s i x) ((inv i).within x h) in
    let last = turned s p m x' in
    let hl = turned_within s inv p m x' h' in
    let from : op s i x ≡ op s j (op s i last) = e ∙ turned-last s p (suc m) x ∙ ap (act s (turn p)) (turned-suc s p m x) in
    let back : x' ≡ op s i last = ap (op s j) from ∙ (inv j).involutive (op s i last) ((inv i).within last hl) in
    chain_from_reflection s inv p d x' m h' (in_cell-trans s p d x x' there (in_cell-turned s p x 1))
    (ap (op s i) back ∙ (inv i).involutive last hl)

-- ## Chambers that turns reach

-- e is reached by fewer than r turns
pub record IsPlace (s : Symbol) (p : Pair) (d r e : ℕ) : Type 0 where
  pub turns : ℕ
  pub below : turns < r
  pub leads : turned s p turns d ≡ e

remainder_below : (k r : ℕ) → 1 ≤ r → k % r < r
remainder_below k r pos = grind arith

-- turns beyond a round go on from d
pub place_of_turns : (s : Symbol) (p : Pair) (d r k : ℕ) → IsPeriod s p d r → IsPlace s p d r (turned s p k d)
place_of_turns s p d r k period =
    let pos = period.positive in
    let split : k ≡ k / r * r + k % r = grind arith in
    record {
      turns = k % r;
      below = remainder_below k r pos;
      leads = sym (ap (turned s p (k % r)) (turned-mul s p r d period.fixed (k / r))) ∙ sym (turned-add s p (k / r * r) (k % r) d) ∙ ap (λ n. turned s p n d) (sym split);
    }

-- fewer than r turns lead to different places
pub turns_unique : (s : Symbol) → AreInvolutions s → (p : Pair) (d r i j : ℕ) → IsChamber s d → IsPeriod s p d r
    → i < r → j < r → turned s p i d ≡ turned s p j d → i ≡ j
turns_unique s inv p d r i j h period li lj same =
    ⊎_elim
    (λ low. absurd (apart i j lj low same))
    (λ high. ⊎_elim (λ low. absurd (apart j i li low (sym same))) (λ equal. omega arith) (cases_lt j i))
    (cases_lt i j)
  where
    apart : (i j : ℕ) → j < r → i < j → turned s p i d ≡ turned s p j d → ⊥
    apart i j below low same =
        let sum : j - i + i ≡ j = omega arith in
        let e : turned s p i (turned s p (j - i) d) ≡ turned s p j d = sym (turned-add s p (j - i) i d) ∙ ap (λ k. turned s p k d) sum in
        let fixed = turned_apart s inv p i (turned s p (j - i) d) d (turned_within s inv p (j - i) d h) h (e ∙ sym same) in
        let least = period.least (j - i) (omega arith) fixed in
        omega arith

-- the turn before
before : (s : Symbol) → AreInvolutions s → (p : Pair) (d r e : ℕ) → IsChamber s d → IsChamber s e → IsPeriod s p d r
    → IsPlace s p d r (act s (turn p) e) → IsPlace s p d r e
before s inv p d r e h he period next =
    let pos = period.positive in
    let k = next.turns + (r - 1) in
    let place = turned s p k d in
    let round : suc k ≡ next.turns + r = omega arith in
    let swap : next.turns + r ≡ r + next.turns = omega arith in
    let again : act s (turn p) place ≡ act s (turn p) e =
    sym (turned-last s p k d) ∙ ap (λ n. turned s p n d) (round ∙ swap) ∙ turned-add s p r next.turns d
    ∙ ap (turned s p next.turns) period.fixed ∙ next.leads in
    let same : place ≡ e =
    turned_apart s inv p 1 place e (turned_within s inv p k d h) he again in
    subst (IsPlace s p d r) same (place_of_turns s p d r k period)

-- the first neighbor of the next place is reached where that of this place is
next_reflected : (s : Symbol) → AreInvolutions s → (p : Pair) (d r x : ℕ) → IsChamber s d → IsChamber s x → IsPeriod s p d r
    → IsPlace s p d r (op s (first p) x) → IsPlace s p d r (op s (first p) (act s (turn p) x))
next_reflected s inv p d r x h hx period place =
    let i = first p in
    let j = second p in
    let hi = (inv i).within x hx in
    let x' = op s j (op s i x) in
    let h' = (inv j).within (op s i x) hi in
    let back : op s j (op s i (op s i x')) ≡ op s i x = ap (op s j) ((inv i).involutive x' h') ∙ (inv j).involutive (op s i x) hi in
    before s inv p d r (op s i x') h ((inv i).within x' h') period (subst (IsPlace s p d r) (sym back) place)

later_reflected : (s : Symbol) → AreInvolutions s → (p : Pair) (d r x k : ℕ) → IsChamber s d → IsChamber s x → IsPeriod s p d r
    → IsPlace s p d r (op s (first p) x) → IsPlace s p d r (op s (first p) (turned s p k x))
later_reflected s inv p d r x zero h hx period place = place
later_reflected s inv p d r x (suc k) h hx period place =
    subst (λ y. IsPlace s p d r (op s (first p) y)) (sym (turned-last s p k x))
    (next_reflected s inv p d r (turned s p k x) h (turned_within s inv p k x hx) period (later_reflected s inv p d r x k h hx period place))

-- where one first neighbor of a place is a place, all are
pub all_reflected : (s : Symbol) → AreInvolutions s → (p : Pair) (d r a : ℕ) → IsChamber s d → IsPeriod s p d r → a < r
    → IsPlace s p d r (op s (first p) (turned s p a d)) → (k : ℕ) → IsPlace s p d r (op s (first p) (turned s p k d))
all_reflected s inv p d r a h period below place k =
    let sum : a + (r - a + k) ≡ r + k = omega arith in
    let at : turned s p (r - a + k) (turned s p a d) ≡ turned s p k d =
    sym (turned-add s p a (r - a + k) d) ∙ ap (λ n. turned s p n d) sum ∙ turned-add s p r k d ∙ ap (turned s p k) period.fixed in
    subst (λ y. IsPlace s p d r (op s (first p) y)) at
    (later_reflected s inv p d r (turned s p a d) (r - a + k) h (turned_within s inv p a d h) period place)

-- a place of which the first neighbor is a place
record IsReflected (s : Symbol) (p : Pair) (d r : ℕ) : Type 0 where
  pub turns : ℕ
  pub below : turns < r
  pub place : IsPlace s p d r (op s (first p) (turned s p turns d))

-- a turn leads to a chamber that the second involution fixes, if its first neighbor is fixed so
reflected_in_chain : (s : Symbol) → AreInvolutions s → (p : Pair) (d r : ℕ) → IsChamber s d → IsPeriod s p d r → IsChain s p d → IsReflected s p d r
reflected_in_chain s inv p d r h period chain =
    let i = first p in
    let j = second p in
    let x = chain.chamber in
    let met = met_from_in_cell s inv p d r x h period chain.in_cell in
    let k = met.turns in
    let at = turned s p k d in
    let hat = turned_within s inv p k d h in
    let here : IsPlace s p d r at = record { turns = k; below = met.below; leads = refl } in
    let reflected : IsPlace s p d r (op s i at) → IsReflected s p d r = λ place. record { turns = k; below = met.below; place = place } in
    ⊎_elim
    (λ on. ⊎_elim
    (λ by_first. reflected (subst (IsPlace s p d r) (on ∙ sym by_first ∙ sym (ap (op s i) on)) here))
    (λ by_second.
    let back : act s (turn p) (op s i at) ≡ at = ap (op s j) ((inv i).involutive at hat) ∙ ap (op s j) on ∙ by_second ∙ sym on in
    reflected (before s inv p d r (op s i at) h ((inv i).within at hat) period (subst (IsPlace s p d r) (sym back) here)))
    chain.fixed)
    (λ beside. ⊎_elim
    (λ by_first.
    let same : at ≡ op s i at = sym ((inv i).involutive at hat) ∙ ap (op s i) beside ∙ by_first ∙ sym beside in
    reflected (subst (IsPlace s p d r) same here))
    (λ by_second.
    let next : turned s p (suc k) d ≡ op s i at = turned-last s p k d ∙ ap (op s j) beside ∙ by_second ∙ sym beside in
    reflected (subst (IsPlace s p d r) next (place_of_turns s p d r (suc k) period)))
    chain.fixed)
    met.place

-- In a chain turns reach the first neighbor of each chamber that they reach.
pub reflected_place : (s : Symbol) → AreInvolutions s → (p : Pair) (d r k : ℕ) → IsChamber s d → IsPeriod s p d r → IsChain s p d → IsPlace s p d r (op s (first p) (turned s p k d))
reflected_place s inv p d r k h period chain =
    let one = reflected_in_chain s inv p d r h period chain in
    all_reflected s inv p d r one.turns h period one.below one.place k

-- In a chain turns reach the whole cell.
pub place_in_chain : (s : Symbol) → AreInvolutions s → (p : Pair) (d r e : ℕ) → IsChamber s d → IsPeriod s p d r → IsChain s p d → InCell s p d e → IsPlace s p d r e
place_in_chain s inv p d r e h period chain there =
    let met = met_from_in_cell s inv p d r e h period there in
    ⊎_elim
    (λ here. record { turns = met.turns; below = met.below; leads = here })
    (λ beside. subst (IsPlace s p d r) beside (reflected_place s inv p d r met.turns h period chain))
    met.place

-- In a cycle they reach no first neighbor of a chamber that they reach.
pub apart_in_cycle : (s : Symbol) → AreInvolutions s → (p : Pair) (d r i j : ℕ) → IsChamber s d → IsPeriod s p d r → (IsChain s p d → ⊥)
    → i < r → j < r → op s (first p) (turned s p i d) ≡ turned s p j d → ⊥
apart_in_cycle s inv p d r i j h period cycle li lj same =
    let sum : i + (r - i + j) ≡ r + j = omega arith in
    let at : turned s p (r - i + j) (turned s p i d) ≡ turned s p j d =
    sym (turned-add s p i (r - i + j) d) ∙ ap (λ n. turned s p n d) sum ∙ turned-add s p r j d ∙ ap (turned s p j) period.fixed in
    cycle (chain_from_reflection s inv p d (turned s p i d) (r - i + j) (turned_within s inv p i d h) (in_cell-turned s p d i) (same ∙ sym at))
