-- What is told of cells.
use Rattle.std.specs.Prelude.{◌≡◌, ℕ, List, length}
use Rattle.dd_model.specs.Symbol.{Symbol, IsChamber, item}
use Rattle.dd_model.specs.Cell.{InCell, IsChain, IsLeastOfCell, IsLeastTurns, IsPeriod}
use Rattle.dd_model.specs.declared.pair.Pair.{Pair}
use Rattle.dd_symbol.specs.declared.kind.Kind.{Kind}
use Rattle.dd_symbol.specs.declared.kind.Kind.TheVariants.{Cycle, Chain}
use Rattle.dd_symbol.specs.declared.shapes.CellShape.{CellShape}

-- l is the least chamber of the cell of d
pub record IsLeastFor (s : Symbol) (p : Pair) (d l : ℕ) : Type 0 where
  pub in_cell : InCell s p d l
  pub is_least : IsLeastOfCell s p l

-- the least chamber of the cell of each chamber
pub record AreLeast (s : Symbol) (p : Pair) (least : List ℕ) : Type 0 where
  pub whole : length least ≡ s.size
  pub each : (d : ℕ) → IsChamber s d → IsLeastFor s p d (item least d)

-- the least positive number of turns that fixes each chamber
pub record ArePeriods (s : Symbol) (p : Pair) (periods : List ℕ) : Type 0 where
  pub whole : length periods ≡ s.size
  pub each : (d : ℕ) → IsChamber s d → IsPeriod s p d (item periods d)

-- the kind of the cell of d: a chain where an involution fixes one of its chambers, else a cycle
abbrev pub IsKindOf : Symbol → Pair → ℕ → Kind → Type 0
IsKindOf s p d Chain = IsChain s p d
IsKindOf s p d Cycle = ¬ IsChain s p d

-- the least chamber, the kind and the least number of turns of the cell of d
pub record IsShapeOf (s : Symbol) (p : Pair) (d : ℕ) (c : CellShape) : Type 0 where
  pub least : IsLeastFor s p d c.least
  pub kind : IsKindOf s p d c.kind
  pub turns : IsLeastTurns s p d c.r
