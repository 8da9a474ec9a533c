use Rattle.std.specs.Prelude.{◌≡◌, ℕ, List, ◌<◌, length, slice_index, slice_index_or}
use Rattle.dd_lattice.specs.Lists.{AreVertexNumbers}
use Rattle.dd_lattice.specs.NetOf.{IsEdgeOf}
use Rattle.dd_lattice.specs.Paths.{shift_by}
use Rattle.dd_lattice.specs.declared.net_edge.NetEdge.{NetEdge}
use Rattle.dd_lattice.proofs.net_shifts.Labels.edges.Given as goal

abbrev pub invariant-loop-k : goal.invariant-loop-k
invariant-loop-k l = record {
  many : length l.all.items ≡ l.k;
  each : (vertices : List ℕ) (j : ℕ) (e : NetEdge) → AreVertexNumbers l.fn.self.symbol.now vertices l.fn.self.numbers.items → j < l.k → j < length l.fn.edges
      → IsEdgeOf l.fn.self.symbol.now vertices (shift_by l.fn.self.symbol.now l.fn.self.first.exits.items) (shift_by l.fn.self.symbol.now l.fn.self.second.exits.items) (slice_index l.fn.edges j) (slice_index_or l.all.items j e);
}
