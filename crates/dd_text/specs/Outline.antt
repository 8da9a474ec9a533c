-- What the lines of symbols with the same involutions have in common.
use Rattle.std.specs.Prelude.{ℕ, List, ◌++◌, codes, decimal}
use Rattle.dd_model.specs.Symbol.{Symbol}
use Rattle.dd_model.specs.Line.{spaced, told_images}
use Rattle.dd_model.specs.Cell.{AreCells}
use Rattle.dd_model.specs.declared.index.Index.TheVariants.{Zero, One, Two}
use Rattle.dd_model.specs.declared.pair.Pair.TheVariants.{Tile, Vertex}
use Rattle.dd_text.specs.Numbered.{IsNumbered}
use Rattle.dd_text.specs.declared.outline.Outline.{Outline}

-- what stands between the number of a line and the degrees
abbrev pub shared_by : Symbol → List ℕ
shared_by s =
    codes ":" ++ decimal s.size ++ codes ":" ++ spaced (told_images s Zero) ++ codes "," ++ spaced (told_images s One) ++ codes "," ++ spaced (told_images s Two) ++ codes ":"

-- the line of number k, whatever comes after the number
pub record HasNumber (k : ℕ) (o : Outline) : Type 0 where
  pub rest : List ℕ
  pub numbered : IsNumbered k rest o.head.items o.number_end

-- the least chambers of the cells of a symbol
pub record HasCells (s : Symbol) (o : Outline) : Type 0 where
  pub tiles : AreCells s Tile o.tiles.items
  pub vertices : AreCells s Vertex o.vertices.items

-- the line of number k of the symbols with these involutions, up to the degrees, and the least chambers of their cells
pub record IsOutlineOf (k : ℕ) (s : Symbol) (o : Outline) : Type 0 where
  pub numbered : IsNumbered k (shared_by s) o.head.items o.number_end
  pub cells : HasCells s o
