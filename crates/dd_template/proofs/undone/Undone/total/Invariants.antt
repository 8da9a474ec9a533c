use Rattle.std.proofs.Common.{◌≡◌, ◌*◌, ◌≤◌, take}
use Rattle.std.specs.List.{sum_by}
use Rattle.dd_template.specs.Table.{table_of}
use Rattle.dd_template.specs.Shares.{share, curvature_unit}
use Rattle.dd_template.specs.Entries.{entries}
use Rattle.dd_template.proofs.undone.Undone.total.Given as goal

abbrev pub invariant-loop-part : goal.invariant-loop-part
invariant-loop-part g l = record {
  total : l.total ≡ sum_by (share l.kind) (take l.part (entries (table_of l.self.table.now) l.pair));
  small : l.total ≤ l.part * curvature_unit;
}
