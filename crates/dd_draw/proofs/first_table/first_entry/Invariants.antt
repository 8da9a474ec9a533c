use Rattle.std.proofs.Common.{◌≡◌, ◌≤◌, ◌*◌, ◌^◌, nat_abs, take}
use Rattle.dd_draw.specs.Elimination.{sum_unlooped}
use Rattle.dd_draw.specs.FirstTable.{unlooped_share}
use Rattle.dd_draw.proofs.first_table.first_entry.Given as goal

abbrev pub invariant-loop-edge : goal.invariant-loop-edge
invariant-loop-edge l = record {
  sum : l.sum ≡ sum_unlooped (unlooped_share l.net.vertices l.row l.column) (take l.edge-index l.edge-items);
  small : nat_abs l.sum ≤ 2 ^ 63 * l.edge-index;
}
