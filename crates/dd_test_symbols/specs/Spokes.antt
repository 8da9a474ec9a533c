-- Edges that join vertices, one after the other, to the first.
use Rattle.std.specs.Prelude.{◌≡◌, ℕ, ◌≤◌, ◌<◌, List, length, slice_index_or}
use Rattle.dd_lattice.specs.declared.net_edge.NetEdge.{NetEdge}

-- Of n vertices those before m are joined to the first.
pub record AreJoinedBelow (n m : ℕ) (edges : List NetEdge) : Type 0 where
  pub from : (k : ℕ) (e : NetEdge) → k < length edges → (1 ≤ (slice_index_or edges k e).from) × ((slice_index_or edges k e).from ≤ n)
  pub to : (k : ℕ) (e : NetEdge) → k < length edges → (1 ≤ (slice_index_or edges k e).to) × ((slice_index_or edges k e).to ≤ n)
  pub joined : (h : ℕ → ℕ) → ((k : ℕ) (e : NetEdge) → k < length edges → h (slice_index_or edges k e).from ≡ h (slice_index_or edges k e).to)
      → (v : ℕ) → 1 ≤ v → v < m → h v ≡ h 1
