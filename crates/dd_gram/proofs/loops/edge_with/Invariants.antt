use Rattle.std.proofs.Common.{◌≡◌, ℕ, ◌<◌, get_or}
use Rattle.dd_lattice.specs.declared.net_edge.NetEdge.{NetEdge}
use Rattle.dd_gram.proofs.loops.edge_with.Given as goal

abbrev pub invariant-loop-k : goal.invariant-loop-k
invariant-loop-k l = (q : ℕ) (e : NetEdge) → q < l.k → (get_or l.edges q e).x ≡ l.x → (get_or l.edges q e).y ≡ l.y → ⊥
