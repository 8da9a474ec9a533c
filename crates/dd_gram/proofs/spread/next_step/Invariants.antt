use Rattle.std.proofs.Common.{◌≡◌, ℕ, ◌<◌, length, get_or}
use Rattle.dd_lattice.specs.declared.net_edge.NetEdge.{NetEdge}
use Rattle.dd_gram.specs.Spreading.{flag, IsStill}
use Rattle.dd_gram.proofs.spread.next_step.Given as goal

abbrev pub invariant-loop-k : goal.invariant-loop-k
invariant-loop-k l = (q : ℕ) (e : NetEdge) → q < l.k → q < length l.torus.net.edges.items → IsStill (get_or l.torus.net.edges.items q e)
    → flag l.met (get_or l.torus.net.edges.items q e).from ≡ flag l.met (get_or l.torus.net.edges.items q e).to
