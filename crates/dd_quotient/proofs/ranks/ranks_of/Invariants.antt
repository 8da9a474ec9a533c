use Rattle.dd_quotient.specs.Ranks.{AreRanks}
use Rattle.dd_quotient.proofs.ranks.ranks_of.Given as goal

abbrev pub invariant-loop-k : goal.invariant-loop-k
invariant-loop-k l = AreRanks l.classes l.all.leaders.items l.all.ranks.items l.k
