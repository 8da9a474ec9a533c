use Rattle.std.proofs.Common.{◌≡◌, ◌≤◌, ◌+◌, ℕ, length, get_or}
use Rattle.dd_lattice.specs.NetOf.{IsNet}
use Rattle.dd_lattice.specs.declared.net_edge.NetEdge.{NetEdge}
use Rattle.dd_gram.proofs.SpreadLemmas.{IsOnWay}
use Rattle.dd_gram.proofs.loops.closed_walk.Given as goal

abbrev pub invariant-loop-k : goal.invariant-loop-k
invariant-loop-k l = record {
  few : length l.walk.items ≤ l.k + 1;
  way : (is : IsNet l.torus.symbol l.torus.net) (e : NetEdge) (m : ℕ) → m + l.k ≡ length l.steps.items
      → IsOnWay l.torus.symbol l.torus.net is (get_or l.torus.net.edges.items l.fn.edge e).from l.steps.items (get_or l.torus.edges l.fn.edge 0) (get_or l.torus.net.edges.items l.fn.edge e).x (get_or l.torus.net.edges.items l.fn.edge e).y m l.walk.items l.place;
}
