-- Exactly two edges of a torus are left.
use Rattle.std.proofs.Common.{◌≡◌, ℕ, ◌+◌, cond, List, [], ◌∷◌, length, refl, arith}
use Rattle.std.proofs.lemmas.List.Sums.{sum_by-cons}
use Rattle.std.specs.List.{count_by}
use Rattle.dd_model.specs.declared.pair.Pair.TheVariants.{Tile, Vertex, Edge}
use Rattle.dd_model.specs.Symbol.{Symbol}
use Rattle.dd_model.specs.Cell.{AreCells}
use Rattle.dd_model.proofs.CellLists.{cells_exist}
use Rattle.dd_cells.specs.Orientation.{color}
use Rattle.dd_covers.specs.Torus.{IsTorus}
use Rattle.dd_lattice.specs.Edges.{AreKindsOf, is_tree, is_crossing, is_left}
use Rattle.dd_lattice.specs.declared.kinds.EdgeKind.{EdgeKind}
use Rattle.dd_lattice.specs.declared.kinds.EdgeKind.TheVariants.{Tree, Crossing, Left}
use Rattle.dd_lattice.proofs.Dual.{all_tiles}
use Rattle.dd_lattice.proofs.TorusCounts.{torus_balance}
use Rattle.dd_lattice.proofs.TreeCounts.{tree_edges, crossing_edges}

-- each kind is one of three
one_kind : (k : EdgeKind) → cond (is_tree k) 1 0 + cond (is_crossing k) 1 0 + cond (is_left k) 1 0 ≡ 1
one_kind Tree = refl
one_kind Crossing = refl
one_kind Left = refl

three_kinds : (kinds : List EdgeKind) → count_by is_tree kinds + count_by is_crossing kinds + count_by is_left kinds ≡ length kinds
three_kinds [] = refl
three_kinds (k ∷ kinds) =
    let rest = three_kinds kinds in
    let a = sum_by-cons (λ x. cond (is_tree x) 1 0) k kinds in
    let b = sum_by-cons (λ x. cond (is_crossing x) 1 0) k kinds in
    let c = sum_by-cons (λ x. cond (is_left x) 1 0) k kinds in
    let here = one_kind k in
    omega arith

module _ (t : Symbol) (torus : IsTorus t) (edges : List ℕ) (cells : AreCells t Edge edges) (kinds : List EdgeKind) (are : AreKindsOf t edges kinds) where
  pub trees : (vertices : List ℕ) → AreCells t Vertex vertices → count_by is_tree kinds + 1 ≡ length vertices
  trees = tree_edges t torus.symbol.table.involutions edges cells kinds are torus.symbol torus.connected

  pub crossings : (tiles : List ℕ) → AreCells t Tile tiles → count_by is_crossing kinds + 1 ≡ length tiles
  crossings tiles of_tiles =
      crossing_edges t torus.symbol.table.involutions edges cells kinds are (omega arith, torus.symbol.table.chambers) tiles of_tiles
      (all_tiles t torus.symbol torus.connected edges cells kinds are (color torus.oriented.colors) torus.oriented.exchanged)

  pub two_left : count_by is_left kinds ≡ 2
  two_left =
      let inv = torus.symbol.table.involutions in
      let vertices = cells_exist t inv Vertex in
      let tiles = cells_exist t inv Tile in
      let a = trees vertices.0 vertices.1 in
      let b = crossings tiles.0 tiles.1 in
      let balance = torus_balance t torus tiles.0 vertices.0 edges tiles.1 vertices.1 cells in
      let all = three_kinds kinds in
      let many = are.many in
      omega arith
