use Rattle.std.proofs.Common.{◌≡◌, ◌++◌, take}
use Rattle.dd_front_jobs.proofs.AlikeSizes.{alike}
use Rattle.dd_front_jobs.proofs.openings.add_alike.Given as goal

abbrev pub invariant-loop-job : goal.invariant-loop-job
invariant-loop-job l = record { jobs : l.jobs.items ≡ l.fn.jobs.items ++ alike l.size (take l.job-index l.alike) }
