use Rattle.std.proofs.Common.{◌≤◌}
use Rattle.dd_template.specs.Table.{table_of}
use Rattle.dd_template.specs.Entries.{IsApart}
use Rattle.dd_template.proofs.undone.Undone.is_apart.Given as goal

abbrev pub invariant-loop-fewer : goal.invariant-loop-fewer
invariant-loop-fewer g l = record {
  apart : IsApart (table_of l.self.table.now) l.fn.pair l.fn.part.number l.fewer;
  positive : 1 ≤ l.fewer;
}
