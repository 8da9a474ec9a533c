use Rattle.dd_quotient.proofs.MeetLemmas.{AreFirsts}
use Rattle.dd_quotient.proofs.classes.refined.Given as goal

abbrev pub invariant-loop-k : goal.invariant-loop-k
invariant-loop-k l = AreFirsts l.s l.classes l.firsts l.finer.items l.k
