-- The dual of a tiling has a vertex for each tile and a tile for each vertex.
use Rattle.std.specs.Prelude.{ℕ, List, map}
use Rattle.dd_model.specs.Symbol.{Symbol, degree}
use Rattle.dd_model.specs.Code.{chambers}
use Rattle.dd_model.specs.declared.pair.Pair.{Pair}

-- s0 and s2 exchanged, and with them the degrees of tiles and vertices, on the same chambers
abbrev pub dual_of : Symbol → Symbol
dual_of s = record { size = s.size; s0 = s.s2; s1 = s.s1; s2 = s.s0; m01 = s.m12; m12 = s.m01 }

-- the degrees of a pair at all chambers
abbrev pub degrees_of : Symbol → Pair → List ℕ
degrees_of s p = map (degree s p) (chambers s)
