use Rattle.std.proofs.Common.{◌≡◌}
use Rattle.dd_steal.proofs.round.crew_size.Given as goal

-- the finder is for the same request
abbrev pub invariant-loop-job : goal.invariant-loop-job
invariant-loop-job g l = g.F.Finder.request l.finder ≡ g.F.Finder.request l.fn.finder
