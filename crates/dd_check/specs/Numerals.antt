-- Numbers as they are written.
use Rattle.std.specs.Prelude.{◌≡◌, ℕ, ◌^◌, ◌<◌, decimal}
use Rattle.dd_check.specs.Texts.{Text}

-- a number that is written with at most 19 digits
abbrev pub IsShort : ℕ → Type 0
IsShort number = number < 10 ^ 19

-- the word is the number in decimal, which has no leading zero, with at most 19 digits
pub record IsNumeral (word : Text) (number : ℕ) : Type 0 where
  pub digits : word ≡ decimal number
  pub short : IsShort number
