use Rattle.std.proofs.Common.{◌≡◌}
use Rattle.std.specs.List.{flat_map}
use Rattle.dd_model.specs.Code.{count_from}
use Rattle.dd_template.specs.Made.{image_of, of_chamber}
use Rattle.dd_template.specs.Table.{table_of}
use Rattle.dd_template.proofs.undone.Undone.images.Given as goal

abbrev pub invariant-loop-k : goal.invariant-loop-k
invariant-loop-k g l = l.images.items ≡ flat_map (of_chamber (table_of l.self.table.now) (image_of (table_of l.self.table.now) l.symbol l.index)) (count_from 1 l.k)
