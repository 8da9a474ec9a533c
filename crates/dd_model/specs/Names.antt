-- The names of pairs.
use Rattle.std.specs.Prelude.{ℕ, List, codes}
use Rattle.dd_model.specs.declared.pair.Pair.{Pair}
use Rattle.dd_model.specs.declared.pair.Pair.TheVariants.{Tile, Vertex, Edge}

-- what the orbits of a pair are called in messages
abbrev pub pair_name : Pair → List ℕ
pair_name Tile = codes "tile"
pair_name Vertex = codes "vertex"
pair_name Edge = codes "edge"
