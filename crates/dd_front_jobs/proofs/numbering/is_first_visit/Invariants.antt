use Rattle.std.proofs.Common.{take}
use Rattle.dd_front_jobs.specs.FirstVisit.{IsFirstVisitPrefix}
use Rattle.dd_front_jobs.proofs.numbering.is_first_visit.Given as goal

abbrev pub invariant-loop-place : goal.invariant-loop-place
invariant-loop-place l = IsFirstVisitPrefix l.size (take l.place l.prefix)
