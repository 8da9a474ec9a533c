use Rattle.dd_quotient.specs.Ranks.{AreValues, degree_of}
use Rattle.dd_quotient.proofs.ranks.degrees_of.Given as goal

abbrev pub invariant-loop-leader : goal.invariant-loop-leader
invariant-loop-leader l = AreValues (degree_of l.s l.fn.leaders l.fn.pair) l.leader-index l.degrees.items
