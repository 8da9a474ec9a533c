-- Each symbol has an orbifold.
use Rattle.std.proofs.Common.{ℕ, List, ◌++◌, length}
use Rattle.std.specs.Ordering.{nat_cmp}
use Rattle.std.specs.Cmp.{nat_cmp_total}
use Rattle.dd_model.specs.declared.pair.Pair.TheVariants.{Tile, Vertex, Edge}
use Rattle.dd_model.specs.Symbol.{Symbol, IsSymbol}
use Rattle.dd_name.specs.declared.orbifolds.Orbifold.{Orbifold}
use Rattle.dd_name.specs.Cones.{AreCones, cone_values}
use Rattle.dd_name.specs.Orbifold.{IsOrbifold}
use Rattle.dd_suite_exercise.proofs.CellsExist.{all_cells}
use Rattle.dd_suite_exercise.proofs.CornersExist.{boundaries_exist}
use Rattle.dd_suite_exercise.proofs.RoundsExist.{rounds_exist}
use Rattle.dd_suite_exercise.proofs.SortExists.{descending_exists}
use Rattle.dd_suite_exercise.proofs.SurfaceExists.{surface_exists}

record HasCones (s : Symbol) : Type 0 where
  pub cones : List ℕ
  pub are : AreCones s cones

cones_exist : (s : Symbol) → IsSymbol s → HasCones s
cones_exist s is =
    let tiles = all_cells s is Tile in
    let vertices = all_cells s is Vertex in
    let edges = all_cells s is Edge in
    let d = descending_exists nat_cmp nat_cmp_total (cone_values tiles.cells ++ cone_values vertices.cells ++ cone_values edges.cells) in
    record {
      cones = d.arrangement;
      are = record {
        tiles = tiles.cells;
        vertices = vertices.cells;
        edges = edges.cells;
        are_tiles = tiles.are;
        are_vertices = vertices.are;
        are_edges = edges.are;
        descending = d.is;
      };
    }

pub record HasOrbifold (s : Symbol) : Type 0 where
  pub orbifold : Orbifold
  pub is : IsOrbifold s orbifold

pub orbifold_exists : (s : Symbol) → IsSymbol s → HasOrbifold s
orbifold_exists s is =
    let cones = cones_exist s is in
    let rounds = rounds_exist s is in
    let boundaries = boundaries_exist rounds.rounds in
    let surface = surface_exists s is.table.involutions (length rounds.rounds) in
    record {
      orbifold = record { handles = surface.handles; cones = cones.cones; boundaries = boundaries.boundaries; crosscaps = surface.crosscaps };
      is = record { cones = cones.are; rounds = rounds.rounds; are_rounds = rounds.are; boundaries = boundaries.are; surface = surface.are };
    }
