-- A text that is parted at a byte.
use Rattle.std.specs.Prelude.{◌≡◌, ◌≢◌, ℕ, List, ◌∷◌, ◌++◌}
use Rattle.std.specs.List.{AllByRecursion}

-- the byte does not stand in the text
abbrev pub Avoids : ℕ → List ℕ → Type 0
Avoids byte = AllByRecursion (λ other. other ≢ byte)

-- the two parts stand before and after the first such byte
pub record IsParted (byte : ℕ) (text before after : List ℕ) : Type 0 where
  pub joined : text ≡ before ++ byte ∷ after
  pub first : Avoids byte before
