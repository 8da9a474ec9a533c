use Rattle.std.proofs.Common.{◌≡◌}
use Rattle.dd_front.specs.Rounds.{open_jobs}
use Rattle.dd_catalogue_rounds.specs.Splits.{IsReady, IsRefined}
use Rattle.dd_catalogue_rounds.proofs.Weights.{weighed}
use Rattle.dd_catalogue_rounds.proofs.parts.split_large.Given as goal

-- some splits were made
abbrev pub invariant-loop : goal.invariant-loop
invariant-loop g l = (g.F.Finder.request l.finder ≡ g.F.Finder.request l.initial.finder) × IsRefined (g.F.Finder.request l.initial.finder) l.initial.front l.front × IsReady (g.F.Finder.request l.initial.finder) l.front

abbrev pub decreases-loop : goal.decreases-loop
decreases-loop g l = weighed (open_jobs l.front.entries)
