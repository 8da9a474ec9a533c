use Rattle.std.proofs.Common.{◌≡◌}
use Rattle.std.specs.List.{flat_map}
use Rattle.dd_model.specs.Code.{count_from}
use Rattle.dd_template.specs.Entries.{entries}
use Rattle.dd_template.specs.Made.{degree_from, of_chamber}
use Rattle.dd_template.specs.Table.{table_of}
use Rattle.dd_template.proofs.tables.Template.degrees.Given as goal

abbrev pub invariant-loop-k : goal.invariant-loop-k
invariant-loop-k g l = l.degrees.items ≡ flat_map (of_chamber (table_of l.self) (degree_from l.s (entries (table_of l.self) l.pair))) (count_from 1 l.k)
