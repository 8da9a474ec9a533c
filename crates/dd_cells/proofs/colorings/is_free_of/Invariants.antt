use Rattle.std.proofs.Common.{◌≢◌, ℕ, ◌≤◌}
use Rattle.dd_model.specs.Symbol.{IsChamber, op}
use Rattle.dd_cells.proofs.colorings.is_free_of.Given as goal

abbrev pub invariant-loop-k : goal.invariant-loop-k
invariant-loop-k l = (d : ℕ) → IsChamber l.symbol d → d ≤ l.k → op l.symbol l.i d ≢ d
