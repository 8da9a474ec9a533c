use Rattle.std.specs.Prelude.{◌≡◌, ℕ, ◌<◌, length, slice_index, slice_index_or}
use Rattle.dd_lattice.specs.Edges.{IsKindOf, AreVerticesTo, AreTilesTo}
use Rattle.dd_lattice.specs.declared.kinds.EdgeKind.{EdgeKind}
use Rattle.dd_lattice.proofs.kinds.edge_kinds.Given as goal

abbrev pub invariant-loop-k : goal.invariant-loop-k
invariant-loop-k l = record {
  vertices : AreVerticesTo l.t l.edges l.k l.vertices;
  tiles : AreTilesTo l.t l.edges l.k l.tiles;
  many : length l.kinds.items ≡ l.k;
  each : (j : ℕ) (d : EdgeKind) → j < l.k → IsKindOf l.t (slice_index l.edges j) (slice_index_or l.kinds.items j d);
}
