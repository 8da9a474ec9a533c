use Rattle.std.proofs.Common.{◌≡◌, take}
use Rattle.dd_front_jobs.specs.FirstVisit.{greatest}
use Rattle.dd_front_jobs.proofs.numbering.greatest.Given as goal

abbrev pub invariant-loop-number : goal.invariant-loop-number
invariant-loop-number l = l.most ≡ greatest (take l.number-index l.numbers)
