use Rattle.std.proofs.Common.{◌≡◌, ◌%◌, ◌++◌, length}
use Rattle.std.specs.Vec.Iter.{into_iter_items, into_iter_len}
use Rattle.dd_front_jobs.specs.Opening.{IsOpening}
use Rattle.dd_front_jobs.proofs.ShardJobs.{IsPicked}
use Rattle.dd_front_jobs.proofs.openings.shard_opening.Given as goal

abbrev pub invariant-loop-job : goal.invariant-loop-job
invariant-loop-job l = record {
  whole : IsOpening l.fn.q (l.yielded ++ into_iter_items l.job-iterator);
  left : into_iter_len l.job-iterator ≡ length (into_iter_items l.job-iterator);
  place : l.place ≡ length l.yielded % l.fn.shard.count;
  picked : IsPicked l.fn.shard 0 l.yielded l.jobs.items;
}
