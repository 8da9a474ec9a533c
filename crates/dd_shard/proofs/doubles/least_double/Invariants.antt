use Rattle.dd_shard.proofs.LeastDoubles.{IsLeast}
use Rattle.dd_shard.proofs.doubles.least_double.Given as goal

abbrev pub invariant-loop-k : goal.invariant-loop-k
invariant-loop-k l = IsLeast l.members l.k l.least
