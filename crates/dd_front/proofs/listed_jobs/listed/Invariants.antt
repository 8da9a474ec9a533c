use Rattle.std.proofs.Common.{◌≡◌, ◌+◌, length}
use Rattle.dd_front.specs.Machine.{open_entries}
use Rattle.dd_front.proofs.listed_jobs.listed.Given as goal

abbrev pub invariant-loop-job : goal.invariant-loop-job
invariant-loop-job l = (l.entries.items ≡ open_entries l.fn.first l.yielded) × (l.number ≡ l.fn.first + length l.yielded)
