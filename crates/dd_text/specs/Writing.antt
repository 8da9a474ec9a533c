-- How a text grows by numbers and lines.
use Rattle.std.specs.Prelude.{◌≡◌, ℕ, List, ◌++◌, Bool, true, false, decimal}
use Rattle.dd_model.specs.Symbol.{Symbol}
use Rattle.dd_model.specs.Line.{IsLine, after_space}
use Rattle.dd_model.specs.Text.{AreLines}

-- the next number of a list, after a space where the list has begun
abbrev pub next_number : Bool → ℕ → List ℕ
next_number false n = decimal n
next_number true n = after_space n

-- the old text, and the line of number k
pub record AddsLine (k : ℕ) (s : Symbol) (old new : List ℕ) : Type 0 where
  pub line : List ℕ
  pub is_line : IsLine k s line
  pub text : new ≡ old ++ line

-- the old text, and the lines of the symbols, numbered from k + 1 on
pub record AddsLines (k : ℕ) (ss : List Symbol) (old new : List ℕ) : Type 0 where
  pub lines : List ℕ
  pub are_lines : AreLines k ss lines
  pub text : new ≡ old ++ lines
