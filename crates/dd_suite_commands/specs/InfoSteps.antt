-- How a text grows by lines of `info`.
use Rattle.std.specs.Prelude.{◌≡◌, ℕ, List, ◌++◌}
use Rattle.dd_model.specs.Symbol.{Symbol}
use Rattle.dd_suite_commands.specs.Info.{IsInfoLine}
use Rattle.dd_suite_commands.specs.Totals.{counted}

-- the old text, and the line of number k, whose group is counted once more
pub record AddsInfoLine (k : ℕ) (s : Symbol) (before after : List (List ℕ × ℕ)) (old new : List ℕ) : Type 0 where
  pub group : List ℕ
  pub line : List ℕ
  pub is_line : IsInfoLine k s group line
  pub text : new ≡ old ++ line
  pub totals : after ≡ counted before group
