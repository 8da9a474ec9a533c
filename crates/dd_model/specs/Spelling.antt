-- How a symbol may be spelled in a file.
use Rattle.std.specs.Prelude.{◌≡◌, ℕ, ◌≤◌, List, [], ◌∷◌, ◌++◌, map, Option, Some, None, IfSome}
use Rattle.dd_model.specs.Symbol.{Symbol, item}
use Rattle.dd_model.specs.Cell.{AreCells}
use Rattle.dd_model.specs.Line.{told_images}
use Rattle.dd_model.specs.declared.index.Index.TheVariants.{Zero, One, Two}
use Rattle.dd_model.specs.declared.pair.Pair.TheVariants.{Tile, Vertex}
use Rattle.dd_model.specs.declared.tokens.Part.TheVariants.{Sign, Number}
use Rattle.dd_model.specs.declared.tokens.Placed.{Placed}
use Rattle.dd_model.specs.declared.tokens.Numeral.{Numeral}

-- the numbers of a list, and the place of the sign that ends it
pub record Told : Type 0 where
  pub numbers : List Numeral
  pub end : ℕ

-- two numbers that mean nothing, with the places of the signs after them
pub record Head : Type 0 where
  pub first : Numeral
  pub dot : ℕ
  pub second : Numeral
  pub colon : ℕ

-- What stands in a symbol after its <, with all places: maybe a head, the size, maybe the dimension, and five lists.
pub record Shape : Type 0 where
  pub head : Option Head
  pub size : Numeral
  pub dimension : Option Numeral
  pub colon : ℕ
  pub s0 : Told
  pub s1 : Told
  pub s2 : Told
  pub m01 : Told
  pub m12 : Told

-- a number as a part
abbrev pub number_part : Numeral → Placed
number_part x = record { at = x.at; part = Number x.value }

-- a sign as a part, from its byte and its place
abbrev pub sign_part : ℕ → ℕ → Placed
sign_part b at = record { at = at; part = Sign b }

-- "number . number :", or nothing, and the parts after it
abbrev pub with_head : Option Head → List Placed → List Placed
with_head None ps = ps
with_head (Some h) ps = number_part h.first ∷ sign_part 46 h.dot ∷ number_part h.second ∷ sign_part 58 h.colon ∷ ps

-- a number, or nothing, and the parts after it
abbrev pub with_dimension : Option Numeral → List Placed → List Placed
with_dimension None ps = ps
with_dimension (Some d) ps = number_part d ∷ ps

-- a list, the sign that ends it, and the parts after it
abbrev pub with_list : Told → ℕ → List Placed → List Placed
with_list l sign ps = map number_part l.numbers ++ sign_part sign l.end ∷ ps

-- head, size, dimension, ":", list "," list "," list ":" list "," list ">"
abbrev pub parts_of : Shape → List Placed
parts_of x =
    with_head x.head (number_part x.size ∷ with_dimension x.dimension (sign_part 58 x.colon ∷
    with_list x.s0 44 (with_list x.s1 44 (with_list x.s2 58 (with_list x.m01 44 (with_list x.m12 62 []))))))

-- 1 to 1,024 chambers, and two dimensions where their number is told
pub record IsPlane (x : Shape) : Type 0 where
  pub some : 1 ≤ x.size.value
  pub few : x.size.value ≤ 1024
  pub two : IfSome x.dimension (λ d. d.value ≡ 2)

-- the values of a list
abbrev pub values : Told → List ℕ
values l = map (λ x. x.value) l.numbers

-- The numbers are those of the symbol: each image once for two chambers, each degree once for each cell.
pub record Tells (x : Shape) (s : Symbol) : Type 0 where
  pub size : x.size.value ≡ s.size
  pub s0 : values x.s0 ≡ told_images s Zero
  pub s1 : values x.s1 ≡ told_images s One
  pub s2 : values x.s2 ≡ told_images s Two
  pub tiles : List ℕ
  pub are_tiles : AreCells s Tile tiles
  pub m01 : values x.m01 ≡ map (item s.m01) tiles
  pub vertices : List ℕ
  pub are_vertices : AreCells s Vertex vertices
  pub m12 : values x.m12 ≡ map (item s.m12) vertices
