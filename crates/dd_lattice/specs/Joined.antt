-- Vertices that are numbered from 1, and edges that join all of them.
use Rattle.std.specs.Prelude.{◌≡◌, ℕ, ◌≤◌, ◌<◌, List, length, slice_index_or}
use Rattle.dd_lattice.specs.declared.net_edge.NetEdge.{NetEdge}

-- a number of a vertex, of which there are n
abbrev pub IsVertexOf : ℕ → ℕ → Type 0
IsVertexOf n v = (1 ≤ v) × (v ≤ n)

-- a value for each vertex that is equal at the two ends of each edge
abbrev pub IsEqualAtEnds : List NetEdge → (ℕ → ℕ) → Type 0
IsEqualAtEnds edges h = (k : ℕ) (e : NetEdge) → k < length edges → h (slice_index_or edges k e).from ≡ h (slice_index_or edges k e).to

-- a vertex or more, all of which are joined by the edges
pub record AreJoined (n : ℕ) (edges : List NetEdge) : Type 0 where
  pub some : 1 ≤ n
  pub from : (k : ℕ) (e : NetEdge) → k < length edges → IsVertexOf n (slice_index_or edges k e).from
  pub to : (k : ℕ) (e : NetEdge) → k < length edges → IsVertexOf n (slice_index_or edges k e).to
  pub joined : (h : ℕ → ℕ) → IsEqualAtEnds edges h → (v : ℕ) → IsVertexOf n v → h v ≡ h 1
