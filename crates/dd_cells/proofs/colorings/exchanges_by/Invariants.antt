use Rattle.std.proofs.Common.{◌≡◌, ◌≢◌, ℕ, ◌≤◌, not}
use Rattle.dd_model.specs.Symbol.{IsChamber, op}
use Rattle.dd_cells.specs.Orientation.{color}
use Rattle.dd_cells.proofs.colorings.exchanges_by.Given as goal

abbrev pub invariant-loop-k : goal.invariant-loop-k
invariant-loop-k l = (d : ℕ) → IsChamber l.symbol d → d ≤ l.k → op l.symbol l.i d ≢ d → color l.colors (op l.symbol l.i d) ≡ not (color l.colors d)
