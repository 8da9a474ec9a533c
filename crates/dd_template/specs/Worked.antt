-- A symbol that a table makes.
use Rattle.std.specs.Prelude.{[], ◌∷◌}
use Rattle.dd_model.specs.Symbol.{Symbol}

-- the tiling by triangles and hexagons
abbrev pub trihexagonal : Symbol
trihexagonal = record { size = 2; s0 = 1 ∷ 2 ∷ []; s1 = 1 ∷ 2 ∷ []; s2 = 2 ∷ 1 ∷ []; m01 = 3 ∷ 6 ∷ []; m12 = 4 ∷ 4 ∷ [] }
