use Rattle.std.proofs.Common.{◌≡◌, ◌+◌, ◌-◌, ◌*◌, ◌<◌, ◌≤◌, length, get_or}
use Rattle.dd_branch_tables.specs.Rows.{partial_of}
use Rattle.dd_branch_tables.proofs.Passing.{IsPassing}
use Rattle.dd_branch_tables.proofs.Traversing.{AreInside, ReadsSo}
use Rattle.dd_branch_tables.proofs.traversal.stand.Given as goal

abbrev pub invariant-loop-place : goal.invariant-loop-place
invariant-loop-place l = record {
  inside : AreInside (partial_of l.rows).size l.visit.order.items;
  reads : ReadsSo (partial_of l.rows) l.prefix l.visit.order.items l.place;
  passing : IsPassing (partial_of l.rows) l.prefix l.start l.visit.order.items l.visit.number l.place;
  some : 1 ≤ length l.visit.order.items;
  begun : l.place ≡ 3 * l.row;
}

abbrev pub invariant-loop-offset : goal.invariant-loop-offset
invariant-loop-offset l = record {
  inside : AreInside (partial_of l.rows).size l.visit.order.items;
  reads : ReadsSo (partial_of l.rows) l.prefix l.visit.order.items l.place;
  passing : IsPassing (partial_of l.rows) l.prefix l.start l.visit.order.items l.visit.number l.place;
  some : 1 ≤ length l.visit.order.items;
  low : l.row < length l.visit.order.items;
  first : l.first ≡ 3 * (get_or l.visit.order.items l.row 0 - 1);
  within : l.place ≡ 3 * l.row + l.offset;
}

abbrev pub decreases-loop-place : goal.decreases-loop-place
decreases-loop-place l = length l.prefix - l.place
