use Rattle.dd_lattice.proofs.ListLemmas.{AreNumberedTo}
use Rattle.dd_lattice.proofs.edge_lists.vertex_numbers.Given as goal

abbrev pub invariant-loop-k : goal.invariant-loop-k
invariant-loop-k l = AreNumberedTo l.fn.t l.fn.vertices l.k l.numbers.items
