use Rattle.std.proofs.Common.{◌≡◌, take}
use Rattle.dd_front.proofs.opening.Opening.of.Given as goal

abbrev pub invariant-loop-job : goal.invariant-loop-job
invariant-loop-job l = l.opening ≡ take l.job-index l.jobs
