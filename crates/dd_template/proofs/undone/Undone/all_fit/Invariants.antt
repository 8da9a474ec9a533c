use Rattle.std.proofs.Common.{ℕ, ◌<◌}
use Rattle.dd_template.specs.Table.{table_of, entry}
use Rattle.dd_template.specs.Entries.{Fits, entries}
use Rattle.dd_template.proofs.undone.Undone.all_fit.Given as goal

abbrev pub invariant-loop-part : goal.invariant-loop-part
invariant-loop-part g l = (x : ℕ) → x < l.part → Fits (table_of l.self.table.now) l.fn.pair x (entry (entries (table_of l.self.table.now) l.fn.pair) x)
