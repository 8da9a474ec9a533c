use Rattle.std.proofs.Common.{◌+◌}
use Rattle.dd_front_jobs.proofs.JobLists.{AreOpeningBelow}
use Rattle.dd_front_jobs.proofs.openings.opening.Given as goal

abbrev pub invariant-loop-k : goal.invariant-loop-k
invariant-loop-k l = record { jobs : AreOpeningBelow (l.k + 1) l.jobs.items }

abbrev pub invariant-loop-size : goal.invariant-loop-size
invariant-loop-size l = record { jobs : AreOpeningBelow l.size l.jobs.items }
