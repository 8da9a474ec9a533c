-- Symbols of the size and with the branching values that the workbench keeps.
use Rattle.std.specs.Prelude.{ℕ, ◌≤◌}
use Rattle.dd_model.specs.Symbol.{Symbol, IsSymbol, IsChamber}
use Rattle.dd_model.specs.Cell.{IsBranching}
use Rattle.dd_model.specs.declared.pair.Pair.{Pair}

-- how many chambers a symbol has at most
abbrev pub most_chambers : ℕ
most_chambers = 16384

-- a symbol of at most 16,384 chambers with branching values of at most 30
pub record IsSmallSymbol (s : Symbol) : Type 0 where
  pub symbol : IsSymbol s
  pub size : s.size ≤ most_chambers
  pub branching : (p : Pair) (d v : ℕ) → IsChamber s d → IsBranching s p d v → v ≤ 30
