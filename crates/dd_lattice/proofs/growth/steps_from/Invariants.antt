use Rattle.dd_lattice.proofs.GrowLemmas.{IsGrownTo}
use Rattle.dd_lattice.proofs.growth.steps_from.Given as goal

abbrev pub invariant-loop-k : goal.invariant-loop-k
invariant-loop-k l = IsGrownTo l.fn.crossing.symbol.now l.fn.first l.k l.tree.met.items l.tree.steps.items
