-- Symbols of one piece.
use Rattle.std.specs.Prelude.{◌≡◌, ℕ}
use Rattle.dd_model.specs.Symbol.{Symbol, IsChamber, Word, act}

-- some word leads from chamber 1 to d
pub record IsReached (s : Symbol) (d : ℕ) : Type 0 where
  pub word : Word
  pub leads : act s word 1 ≡ d

-- some word leads from chamber 1 to each chamber
abbrev pub Connected : Symbol → Type 0
Connected s = (d : ℕ) → IsChamber s d → IsReached s d
