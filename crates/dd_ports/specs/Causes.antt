-- Why a call may fail: the count of faults of what it was handed rose.
use Rattle.std.specs.Prelude.{◌≡◌, ℕ, ◌+◌, ◌-◌, ◌^◌, ◌≤◌, ◌⊎◌, Bool, true, Result, IsErrOf}

-- the count rose, or stood at its type's last value and stays there
abbrev pub Rose : ℕ → ℕ → Type 0
Rose before now = (before + 1 ≤ now) ⊎ ((before ≡ 2 ^ 64 - 1) × (now ≡ before))

-- the count did not fall, and this fault was answered only where it rose
pub record HasCause {T E : Type 0} (fault : E) (before now : ℕ) (result : Result T E) : Type 0 where
  pub later : before ≤ now
  pub failed : IsErrOf result fault → Rose before now

-- what is sure stays sure, its count stays, and this fault is not answered
pub record StaysSure {T E : Type 0} (fault : E) (before now : ℕ) (sure_now : Bool) (result : Result T E) : Type 0 where
  pub sure : sure_now ≡ true
  pub count : now ≡ before
  pub passes : IsErrOf result fault → ⊥
