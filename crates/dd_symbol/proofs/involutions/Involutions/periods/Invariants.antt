use Rattle.std.specs.Prelude.{◌≡◌, ℕ, ◌+◌, ◌<◌, ◌≤◌, length}
use Rattle.dd_model.specs.Symbol.{item}
use Rattle.dd_model.specs.Cell.{IsPeriod}
use Rattle.dd_symbol.proofs.involutions.Involutions.periods.Given as goal

abbrev pub invariant-loop-k : goal.invariant-loop-k
invariant-loop-k l = record {
  length : length l.periods.items ≡ l.k;
  each : (d : ℕ) → 1 ≤ d → d < l.k + 1 → IsPeriod l.self l.pair d (item l.periods.items d);
}
