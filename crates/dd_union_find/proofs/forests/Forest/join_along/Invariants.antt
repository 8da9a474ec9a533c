use Rattle.dd_union_find.specs.Parts.{AreJoinedAlong}
use Rattle.dd_union_find.proofs.forests.Forest.join_along.Given as goal

abbrev pub invariant-loop-k : goal.invariant-loop-k
invariant-loop-k l = AreJoinedAlong l.fn.self l.ones l.others l.k l.self
