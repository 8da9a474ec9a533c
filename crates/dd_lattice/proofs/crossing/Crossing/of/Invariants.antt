use Rattle.dd_lattice.proofs.ListLemmas.{AreSetTo}
use Rattle.dd_lattice.proofs.crossing.Crossing.of.Given as goal

abbrev pub invariant-loop-k : goal.invariant-loop-k
invariant-loop-k l = AreSetTo l.fn.symbol l.fn.edges l.fn.kinds l.k l.flags.items
