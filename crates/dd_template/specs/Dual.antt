-- Tiles and vertices exchanged.
use Rattle.dd_model.specs.Symbol.{Symbol}

-- s0 and s2 exchanged, and with them the degrees of tiles and vertices, on the same chambers
abbrev pub exchanged : Symbol → Symbol
exchanged s = record { size = s.size; s0 = s.s2; s1 = s.s1; s2 = s.s0; m01 = s.m12; m12 = s.m01 }
