use Rattle.std.proofs.Common.{ℕ, ◌≤◌}
use Rattle.dd_model.specs.Symbol.{IsChamber}
use Rattle.dd_symbol.specs.Conditions.{IsMultiple}
use Rattle.dd_symbol.specs.Table.{symbol_of}
use Rattle.dd_symbol.proofs.degrees.CellTable.check_multiples.Given as goal

abbrev pub invariant-loop-k : goal.invariant-loop-k
invariant-loop-k l = (e : ℕ) → IsChamber (symbol_of l.table) e → e ≤ l.k → IsMultiple (symbol_of l.table) l.pair e
