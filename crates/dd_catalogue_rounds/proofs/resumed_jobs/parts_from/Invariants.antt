use Rattle.std.proofs.Common.{◌≡◌}
use Rattle.dd_catalogue_rounds.specs.Works.{IsStarting}
use Rattle.dd_catalogue_rounds.proofs.resumed_jobs.parts_from.Given as goal

-- the run may begin with the jobs, and the finder is for the same request
abbrev pub invariant-loop : goal.invariant-loop
invariant-loop g l = IsStarting l.fn.run.portion l.fn.run.at l.jobs.items × (g.F.Finder.request l.finder ≡ g.F.Finder.request l.fn.finder)
