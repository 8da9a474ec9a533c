use Rattle.std.proofs.Common.{ℕ, ◌<◌}
use Rattle.dd_template.specs.Table.{table_of}
use Rattle.dd_template.specs.Entries.{IsConstant}
use Rattle.dd_template.proofs.undone.Undone.are_constant.Given as goal

abbrev pub invariant-loop-part : goal.invariant-loop-part
invariant-loop-part g l = (x : ℕ) → x < l.part → IsConstant (table_of l.self.table.now) l.fn.pair x
