-- Places in a list of entries.
use Rattle.std.specs.Prelude.{◌≡◌, ◌≢◌, ℕ, zero, suc, List, [], ◌∷◌}
use Rattle.std.specs.List.{AllByRecursion, Contains}
use Rattle.dd_front.specs.declared.entry.Entry.{Entry}
use Rattle.dd_front.specs.declared.entry.State.{State}
use Rattle.dd_front.specs.Machine.{entry_of}

-- the first entry of number k stands at this place, counted from 0
abbrev pub IsPlaceOf : ℕ → List Entry → ℕ → Type 0
IsPlaceOf k [] i = ⊥
IsPlaceOf k (e ∷ es) zero = e.number ≡ k
IsPlaceOf k (e ∷ es) (suc i) = (e.number ≢ k) × IsPlaceOf k es i

-- no entry has number k
abbrev pub HasNoneOf : ℕ → List Entry → Type 0
HasNoneOf k es = AllByRecursion (λ e. e.number ≢ k) es

-- the entry has number k, and no other one has
pub record IsEntryOf (k : ℕ) (es : List Entry) (e : Entry) : Type 0 where
  pub stands : Contains es e
  pub number : e.number ≡ k
  pub only : (d : Entry) → Contains es d → d.number ≡ k → d ≡ e

-- the entries with the one at a place in another state
abbrev pub with_state_at : ℕ → State → List Entry → List Entry
with_state_at i state [] = []
with_state_at zero state (e ∷ es) = entry_of e.number e.job state ∷ es
with_state_at (suc i) state (e ∷ es) = e ∷ with_state_at i state es
