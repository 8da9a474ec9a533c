use Rattle.std.proofs.Common.{◌≡◌, ◌++◌, map}
use Rattle.dd_model.specs.Code.{count_from}
use Rattle.dd_template.specs.Entries.{entries}
use Rattle.dd_template.specs.Made.{degree_from}
use Rattle.dd_template.specs.Table.{table_of}
use Rattle.dd_template.proofs.tables.Template.push_degrees.Given as goal

abbrev pub invariant-loop-part : goal.invariant-loop-part
invariant-loop-part g l = l.degrees.items ≡ l.initial.degrees.items ++ map (degree_from l.s (entries (table_of l.self) l.pair) l.chamber) (count_from 0 l.part)
