-- The Euler number of the surface on which a symbol's tiling lies.
use Rattle.std.specs.Prelude.{◌≡◌, ℕ, ◌+◌, ℤ, pos, ◌-ℤ◌, List, length, nat_le}
use Rattle.std.specs.List.{count_by}
use Rattle.dd_model.specs.Symbol.{Symbol, op}
use Rattle.dd_model.specs.Code.{chambers}
use Rattle.dd_model.specs.Cell.{AreCells}
use Rattle.dd_model.specs.declared.index.Index.{Index}
use Rattle.dd_model.specs.declared.index.Index.TheVariants.{Zero, One, Two}
use Rattle.dd_model.specs.declared.pair.Pair.TheVariants.{Tile, Vertex, Edge}

-- An orbit of one involution is a chamber and its image. Each is counted at the smaller of the two.
unfoldable pub orbits : Symbol → Index → ℕ
orbits s i = count_by (λ d. nat_le d (op s i d)) (chambers s)

-- the number of the cells of all three pairs and of the chambers, less that of the orbits of the three involutions
pub record IsEuler (s : Symbol) (number : ℤ) : Type 0 where
  pub tiles : List ℕ
  pub vertices : List ℕ
  pub edges : List ℕ
  pub are_tiles : AreCells s Tile tiles
  pub are_vertices : AreCells s Vertex vertices
  pub are_edges : AreCells s Edge edges
  pub sum : number ≡ pos (length tiles + length vertices + length edges + s.size) -ℤ pos (orbits s Zero + orbits s One + orbits s Two)
