-- The degrees that a cell may have.
use Rattle.std.specs.Prelude.{◌≡◌, ℕ, ◌+◌, ◌*◌, ◌/◌}
use Rattle.std.specs.Int.{bit_at}
use Rattle.dd_model.specs.Allowed.{IsIn}
use Rattle.dd_model.specs.Wanted.{IsCrystallographic}
use Rattle.dd_model.specs.declared.allowed.Allowed.{Allowed}

-- a number of a set that is r times a branching value of flat symbols
pub record IsChoice (set : Allowed) (r m : ℕ) : Type 0 where
  pub value : ℕ
  pub crystallographic : IsCrystallographic value
  pub product : m ≡ value * r
  pub allowed : IsIn set m

-- So many sides have e of the budget beyond 2 each with a branching value of flat symbols.
pub record HasBranching (sides e : ℕ) : Type 0 where
  pub value : ℕ
  pub crystallographic : IsCrystallographic value
  pub beyond : e + 2 * sides ≡ sides * (12 / value)

-- They have it with one that a set allows a cell with r turns.
pub record IsShare (set : Allowed) (r sides e : ℕ) : Type 0 where
  pub branching : HasBranching sides e
  pub allowed : IsIn set (branching.value * r)

-- the bits of all that they may have
pub record HasShares (set : Allowed) (r sides shares : ℕ) : Type 0 where
  pub told : (e : ℕ) → bit_at shares e ≡ 1 → IsShare set r sides e
  pub all : (v e : ℕ) → IsCrystallographic v → IsIn set (v * r) → e + 2 * sides ≡ sides * (12 / v) → bit_at shares e ≡ 1
