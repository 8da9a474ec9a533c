use Rattle.dd_lattice.specs.Lists.{AreLeftOf}
use Rattle.dd_lattice.proofs.edge_lists.left_edges.Given as goal

abbrev pub invariant-loop-k : goal.invariant-loop-k
invariant-loop-k l = AreLeftOf l.fn.edges l.fn.kinds l.k l.left.items
