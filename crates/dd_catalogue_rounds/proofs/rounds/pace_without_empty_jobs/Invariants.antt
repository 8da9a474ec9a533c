use Rattle.std.proofs.Common.{◌≡◌}
use Rattle.dd_catalogue_rounds.proofs.rounds.pace_without_empty_jobs.Given as goal

-- the finder is for the same request
abbrev pub invariant-loop-entry : goal.invariant-loop-entry
invariant-loop-entry g l = g.F.Finder.request l.finder ≡ g.F.Finder.request l.fn.finder
