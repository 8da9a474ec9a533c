-- Flags: the places where an involution fixes a chamber, that is, where a chamber lies at the border of the surface.
use Rattle.std.specs.Prelude.{◌≡◌, ◌⊎◌, ℕ, ◌+◌, ◌*◌}
use Rattle.dd_model.specs.Symbol.{Symbol, IsChamber, op, first, second}
use Rattle.dd_model.specs.declared.index.Index.{Index}
use Rattle.dd_model.specs.declared.pair.Pair.{Pair}
use Rattle.dd_name.specs.declared.flags.Flag.{Flag}
use Rattle.dd_model.specs.Indices.{index_number}

-- the involution fixes the chamber
pub record IsFlag (s : Symbol) (f : Flag) : Type 0 where
  pub chamber : IsChamber s f.chamber
  pub fixed : op s f.index f.chamber ≡ f.chamber

-- the place of a flag in the order of flags: by chamber, and then by involution
abbrev pub place_of : Flag → ℕ
place_of f = 3 * f.chamber + index_number f.index

-- the involution is one of the pair's
abbrev pub IsOfPair : Pair → Index → Type 0
IsOfPair p i = (i ≡ first p) ⊎ (i ≡ second p)

-- i and j are the two involutions of the pair
abbrev pub AreLetters : Pair → Index → Index → Type 0
AreLetters p i j = ((i ≡ first p) × (j ≡ second p)) ⊎ ((i ≡ second p) × (j ≡ first p))
