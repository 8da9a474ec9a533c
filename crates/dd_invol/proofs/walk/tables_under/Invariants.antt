use Rattle.std.proofs.Common.{◌≡◌, ◌+◌, ◌-◌, ◌*◌, ◌^◌}
use Rattle.dd_branch_tables.proofs.WalkOrder.{AreGiven, IsStand, weight}
use Rattle.dd_invol.proofs.walk.tables_under.Given as goal

abbrev pub invariant-loop-tables : goal.invariant-loop-tables
invariant-loop-tables l = record {
  request : l.walk.request ≡ l.fn.request;
  job : l.walk.job ≡ l.fn.job;
  given : AreGiven l.fn.request l.fn.job l.walk.last l.tables.items;
  stand : IsStand l.fn.job.size l.walk.last;
}

abbrev pub decreases-loop-tables : goal.decreases-loop-tables
decreases-loop-tables l = 37 ^ (3 * l.fn.job.size) + 1 - weight l.walk.last
