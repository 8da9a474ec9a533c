-- The net of a torus.
use Rattle.std.specs.Prelude.{◌≡◌, ℕ, ◌≤◌, ◌<◌, ℤ, List, length, slice_index, slice_index_or}
use Rattle.dd_model.specs.Symbol.{Symbol, item, op}
use Rattle.dd_model.specs.Cell.{AreCells}
use Rattle.dd_model.specs.declared.index.Index.TheVariants.{Zero}
use Rattle.dd_model.specs.declared.pair.Pair.TheVariants.{Vertex, Edge}
use Rattle.dd_symbol.specs.Cells.{IsLeastFor}
use Rattle.dd_lattice.specs.Shifts.{AreLeft, AreShifts}
use Rattle.dd_lattice.specs.declared.net.Net.{Net}
use Rattle.dd_lattice.specs.declared.net_edge.NetEdge.{NetEdge}

-- the place of the vertex of a chamber among the vertices, counted from 1
pub record IsVertexNumber (t : Symbol) (vertices : List ℕ) (d n : ℕ) : Type 0 where
  pub positive : 1 ≤ n
  pub within : n ≤ length vertices
  pub least : IsLeastFor t Vertex d (item vertices n)

-- the edge of a chamber, from the vertex of the chamber to that of its image by s0
pub record IsEdgeOf (t : Symbol) (vertices : List ℕ) (first second : ℕ → ℤ) (d : ℕ) (e : NetEdge) : Type 0 where
  pub from : IsVertexNumber t vertices d e.from
  pub to : IsVertexNumber t vertices (op t Zero d) e.to
  pub x : e.x ≡ first d
  pub y : e.y ≡ second d

-- So many vertices and these edges are those of the torus, both in the order of their least chambers. The shift is (1, 0) on the
-- first of the two edges that are left, and (0, 1) on the second.
pub record AreNetParts (t : Symbol) (count : ℕ) (listed : List NetEdge) : Type 0 where
  pub vertices : List ℕ
  pub are_vertices : AreCells t Vertex vertices
  pub many_vertices : count ≡ length vertices
  pub one : ℕ
  pub two : ℕ
  pub are_left : AreLeft t one two
  pub first : ℕ → ℤ
  pub are_first : AreShifts t one first
  pub second : ℕ → ℤ
  pub are_second : AreShifts t two second
  pub edges : List ℕ
  pub are_edges : AreCells t Edge edges
  pub many_edges : length listed ≡ length edges
  pub each : (k : ℕ) (e : NetEdge) → k < length edges
      → IsEdgeOf t vertices first second (slice_index edges k) (slice_index_or listed k e)

-- the net of the torus
abbrev pub IsNet : Symbol → Net → Type 0
IsNet t net = AreNetParts t net.vertices net.edges.items
