use Rattle.std.proofs.Common.{◌≡◌, ◌+◌, ◌-◌, ◌*◌, ◌<◌, min, length}
use Rattle.dd_front_jobs.specs.Under.{Appends}
use Rattle.dd_front_jobs.proofs.JobLists.{AreJobsBefore}
use Rattle.dd_front_jobs.proofs.openings.+add_jobs.Given as goal

abbrev pub decreases-add_jobs : goal.decreases-add_jobs
decreases-add_jobs l = 9 - length l.prefix.now.items

abbrev pub invariant-loop-k : goal.invariant-loop-k
invariant-loop-k l = record {
  same : l.prefix.items ≡ l.fn.prefix.items;
  short : length l.fn.prefix.items < min (3 * l.size) 9;
  jobs : Appends (AreJobsBefore l.size (min (3 * l.size) 9) l.fn.prefix.items (l.k + 1)) l.fn.jobs.items l.jobs.items;
}
