-- Shifts as they are kept.
use Rattle.std.specs.Prelude.{◌≡◌, ℕ, ◌<◌, List, length}
use Rattle.dd_model.specs.Symbol.{Symbol, IsChamber, item}
use Rattle.dd_model.specs.declared.index.Index.{Index}
use Rattle.dd_model.specs.declared.index.Index.TheVariants.{Zero, One, Two}
use Rattle.dd_covers.specs.declared.shifts.Shifts.{Shifts}

-- the list of an involution
abbrev pub shifts_by : Shifts → Index → List ℕ
shifts_by x Zero = x.x0.items
shifts_by x One = x.x1.items
shifts_by x Two = x.x2.items

-- how many sheets further on an involution leads from a chamber
abbrev pub shift : Shifts → Index → ℕ → ℕ
shift x i d = item (shifts_by x i) d

-- a number for each involution and chamber
abbrev pub HaveSize : Symbol → Shifts → Type 0
HaveSize s x = (i : Index) → length (shifts_by x i) ≡ s.size

-- a number below k for each involution and chamber
pub record AreBelow (s : Symbol) (k : ℕ) (x : Shifts) : Type 0 where
  pub lengths : (i : Index) → length (shifts_by x i) ≡ s.size
  pub below : (i : Index) (d : ℕ) → IsChamber s d → shift x i d < k

-- one sheet further on, by each involution and from each chamber
pub record AreOnes (s : Symbol) (x : Shifts) : Type 0 where
  pub lengths : (i : Index) → length (shifts_by x i) ≡ s.size
  pub each : (i : Index) (d : ℕ) → IsChamber s d → shift x i d ≡ 1

-- no sheet further on
pub record AreZeros (s : Symbol) (x : Shifts) : Type 0 where
  pub lengths : HaveSize s x
  pub each : (i : Index) (d : ℕ) → shift x i d ≡ 0
