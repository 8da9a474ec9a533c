-- The involutions of a tiling by themselves.
use Rattle.std.specs.Prelude.{◌≡◌, []}
use Rattle.dd_model.specs.Symbol.{Symbol}

-- a symbol without its degrees
abbrev pub bare : Symbol → Symbol
bare s = record s { m01 = []; m12 = [] }

-- as many chambers, and the same three involutions
pub record HaveSameInvolutions (s t : Symbol) : Type 0 where
  pub size : t.size ≡ s.size
  pub s0 : t.s0 ≡ s.s0
  pub s1 : t.s1 ≡ s.s1
  pub s2 : t.s2 ≡ s.s2
