-- The cells of a pair, as they are told.
use Rattle.std.specs.Prelude.{◌↔◌, ℕ, ◌<◌, List, map}
use Rattle.std.specs.List.{AllByRecursion, Contains}
use Rattle.std.specs.List.Sorted.{IsStrictlyIncreasing}
use Rattle.dd_model.specs.Symbol.{Symbol}
use Rattle.dd_model.specs.Cell.{InCell, IsLeastTurns, IsBranching, IsLeastOfCell, AreCells}
use Rattle.dd_model.specs.declared.pair.Pair.{Pair}
use Rattle.dd_symbol.specs.Cells.{IsKindOf}
use Rattle.dd_cells.specs.declared.cell.Cell.{Cell}

-- the chambers of the cell of d, ascending
pub record AreMembers (s : Symbol) (p : Pair) (d : ℕ) (members : List ℕ) : Type 0 where
  pub ascending : IsStrictlyIncreasing members
  pub each : (e : ℕ) → Contains members e ↔ InCell s p d e

-- a cell with its least chamber, its kind, its least number of turns, its branching value and its chambers
pub record IsCellOf (s : Symbol) (p : Pair) (c : Cell) : Type 0 where
  pub least : IsLeastOfCell s p c.least
  pub kind : IsKindOf s p c.least c.kind
  pub turns : IsLeastTurns s p c.least c.r
  pub branching : IsBranching s p c.least c.v
  pub members : AreMembers s p c.least c.members

-- every cell of the pair once, ascending by least chamber
pub record AreCellsOf (s : Symbol) (p : Pair) (cells : List Cell) : Type 0 where
  pub least_chambers : AreCells s p (map (λ c. c.least) cells)
  pub each : AllByRecursion (IsCellOf s p) cells
