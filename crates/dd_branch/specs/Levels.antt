-- The levels of a search.
use Rattle.std.specs.Prelude.{ℕ, ◌≤◌, ◌<◌, List, Vec, length, vec_capacity}
use Rattle.std.specs.Global.{Global}
use Rattle.std.specs.declared.option.Option.{Option}
use Rattle.std.specs.declared.option.Option.TheVariants.{None, Some}
use Rattle.dd_branch_bounds.specs.Kept.{no_sides}
use Rattle.dd_branch_bounds.specs.declared.table_paths.TablePaths.{TablePaths}
use Rattle.dd_branch.specs.declared.undo_point.UndoPoint.{UndoPoint}

-- the levels before the one where a search stands, and the paths of its table
pub record Leveled : Type 0 where
  pub before : List UndoPoint
  pub sides : TablePaths

-- so many levels of a list are before one in use, and there is room for 109
pub record HasRoom (count : ℕ) (levels : Vec UndoPoint Global) : Type 0 where
  pub used : count < length levels.items
  pub room : 109 ≤ vec_capacity levels

-- the level of so many numbers, images, and moves of starts, with the paths of the table
abbrev pub level_of : ℕ → ℕ → TablePaths → ℕ → UndoPoint
level_of numbers rows sides starts = record { numbers = numbers; rows = rows; sides = sides; starts = starts }

-- the paths of a level, if there is one
abbrev pub sides_of : Option UndoPoint → TablePaths
sides_of None = no_sides
sides_of (Some level) = level.sides
