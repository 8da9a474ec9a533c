-- Texts that grow.
use Rattle.std.specs.Prelude.{◌≡◌, ℕ, List, ◌++◌}

-- the old text, and perhaps more
pub record IsLonger (old new : List ℕ) : Type 0 where
  pub rest : List ℕ
  pub text : new ≡ old ++ rest
