-- Lines with a number.
use Rattle.std.specs.Prelude.{◌≡◌, ℕ, ◌+◌, List, ◌++◌, codes, decimal, length}

-- a line of number k, up to some place after the number, which ends at a place
pub record IsNumbered (k : ℕ) (rest text : List ℕ) (end : ℕ) : Type 0 where
  pub text_is : text ≡ codes "<1." ++ decimal k ++ rest
  pub end_is : end ≡ 3 + length (decimal k)
