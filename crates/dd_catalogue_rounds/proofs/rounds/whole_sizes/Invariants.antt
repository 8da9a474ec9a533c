use Rattle.std.proofs.Common.{◌≡◌}
use Rattle.dd_catalogue_rounds.specs.WholeSizes.{sizes_up_to}
use Rattle.dd_catalogue_rounds.proofs.rounds.whole_sizes.Given as goal

-- the sizes up to here
abbrev pub invariant-loop-k : goal.invariant-loop-k
invariant-loop-k l = l.jobs.items ≡ sizes_up_to l.k
