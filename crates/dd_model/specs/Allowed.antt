use Rattle.std.specs.Prelude.{ℕ, ◌≤◌, ◌↔◌, false, IsTrue, slice_index_or}
use Rattle.dd_model.specs.declared.allowed.Allowed.{Allowed}

-- the number is in the set
abbrev pub IsIn : Allowed → ℕ → Type 0
IsIn a m = IsTrue (slice_index_or a.table m false)

-- the set has the numbers from f to 216 and no others
abbrev pub IsFrom : ℕ → Allowed → Type 0
IsFrom f a = (m : ℕ) → IsIn a m ↔ ((f ≤ m) × (m ≤ 216))
