use Rattle.std.proofs.Common.{◌≡◌, ◌++◌, map}
use Rattle.dd_model.specs.Code.{count_from}
use Rattle.dd_template.specs.Made.{image_of}
use Rattle.dd_template.specs.Table.{table_of}
use Rattle.dd_template.proofs.undone.Undone.push_images.Given as goal

abbrev pub invariant-loop-part : goal.invariant-loop-part
invariant-loop-part g l = l.images.items ≡ l.initial.images.items ++ map (image_of (table_of l.self.table.now) l.symbol l.index l.chamber) (count_from 0 l.part)
