-- The cones of a symbol.
use Rattle.std.specs.Prelude.{ℕ, Bool, true, false, ◌&&◌, List, ◌++◌, map, filter, nat_lt}
use Rattle.std.specs.Ordering.{nat_cmp}
use Rattle.dd_model.specs.Symbol.{Symbol}
use Rattle.dd_model.specs.declared.pair.Pair.TheVariants.{Tile, Vertex, Edge}
use Rattle.dd_symbol.specs.declared.kind.Kind.{Kind}
use Rattle.dd_symbol.specs.declared.kind.Kind.TheVariants.{Cycle, Chain}
use Rattle.dd_cells.specs.declared.cell.Cell.{Cell}
use Rattle.dd_cells.specs.Cells.{AreCellsOf}
use Rattle.dd_name.specs.Arranged.{IsDescending}

-- a cycle
abbrev pub is_cycle : Kind → Bool
is_cycle Cycle = true
is_cycle Chain = false

-- a cycle with a value above 1
abbrev pub is_cone : Cell → Bool
is_cone c = is_cycle c.kind && nat_lt 1 c.v

-- the values of the cones among some cells
abbrev pub cone_values : List Cell → List ℕ
cone_values cells = map (λ c. c.v) (filter is_cone cells)

-- the values above 1 of the cycles of all three pairs, descending, each as often as it comes
pub record AreCones (s : Symbol) (cones : List ℕ) : Type 0 where
  pub tiles : List Cell
  pub vertices : List Cell
  pub edges : List Cell
  pub are_tiles : AreCellsOf s Tile tiles
  pub are_vertices : AreCellsOf s Vertex vertices
  pub are_edges : AreCellsOf s Edge edges
  pub descending : IsDescending nat_cmp (cone_values tiles ++ cone_values vertices ++ cone_values edges) cones
