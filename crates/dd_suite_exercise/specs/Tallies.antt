-- How a tally grows by a symbol.
use Rattle.std.specs.Prelude.{◌≡◌, ℕ, ◌+◌, ◌<◌, List}
use Rattle.std.specs.List.{AllByRecursion}
use Rattle.dd_model.specs.Symbol.{Symbol}
use Rattle.dd_model.specs.Line.{IsLine}
use Rattle.dd_suite_commands.specs.Info.{IsGroup}
use Rattle.dd_suite_commands.specs.Totals.{counted, counted_in}
use Rattle.dd_suite_exercise.specs.declared.tallies.Tally.{Tally}

-- no count comes near its end
pub record IsShort (t : Tally) : Type 0 where
  pub chambers : t.chambers < 1000000000
  pub classes : AllByRecursion (λ e. e.1 < 1000000000) (counted_in t.classes)
  pub groups : AllByRecursion (λ e. e.1 < 1000000000) (counted_in t.groups)

-- one symbol more is counted, with its line and the name of its group
pub record CountsOne (s : Symbol) (old new : Tally) : Type 0 where
  pub chambers : new.chambers ≡ old.chambers + s.size
  pub line : List ℕ
  pub is_line : IsLine 1 s line
  pub classes : counted_in new.classes ≡ counted (counted_in old.classes) line
  pub group : List ℕ
  pub is_group : IsGroup s group
  pub groups : counted_in new.groups ≡ counted (counted_in old.groups) group
