use Rattle.std.proofs.Common.{◌≢◌, ℕ, ◌<◌, Some}
use Rattle.dd_model.specs.declared.index.Index.{Index}
use Rattle.dd_template.specs.Table.{table_of, move}
use Rattle.dd_template.proofs.tables.Template.is_used.Given as goal

abbrev pub invariant-loop-part : goal.invariant-loop-part
invariant-loop-part g l = (i : Index) (x : ℕ) → x < l.part → (move (table_of l.self) i x).by ≢ Some l.fn.index
