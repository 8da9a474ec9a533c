-- Cells as numbers.
use Rattle.std.specs.Prelude.{◌≡◌, ℕ, ◌+◌, ◌*◌}
use Rattle.dd_model.specs.Symbol.{Symbol}
use Rattle.dd_model.specs.declared.pair.Pair.{Pair}
use Rattle.dd_model.specs.declared.pair.Pair.TheVariants.{Tile, Vertex, Edge}
use Rattle.dd_symbol.specs.Cells.{IsLeastFor}

-- the numbers of vertices come after those of tiles, and those of edges after both
abbrev pub base : Symbol → Pair → ℕ
base s Tile = 0
base s Vertex = s.size + 1
base s Edge = 2 * (s.size + 1)

-- the number of the cell with a least chamber
abbrev pub numbered : Symbol → Pair → ℕ → ℕ
numbered s p l = base s p + l

-- n is the number of the cell of d
pub record IsCellNumber (s : Symbol) (p : Pair) (d n : ℕ) : Type 0 where
  pub least : ℕ
  pub is_least : IsLeastFor s p d least
  pub number : n ≡ numbered s p least
