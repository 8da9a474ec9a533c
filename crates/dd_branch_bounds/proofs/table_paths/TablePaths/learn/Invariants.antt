use Rattle.dd_branch_tables.specs.Rows.{partial_of}
use Rattle.dd_branch_bounds.specs.Kept.{AreSides}
use Rattle.dd_branch_bounds.proofs.table_paths.TablePaths.learn.Given as goal

abbrev pub invariant-loop-place : goal.invariant-loop-place
invariant-loop-place l = record { kept : AreSides l.classes (partial_of l.table) l.self }
