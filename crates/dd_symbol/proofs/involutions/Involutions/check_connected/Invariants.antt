use Rattle.std.proofs.Common.{ℕ, ◌≤◌}
use Rattle.dd_model.specs.Symbol.{IsChamber}
use Rattle.dd_model.specs.Connected.{IsReached}
use Rattle.dd_symbol.proofs.involutions.Involutions.check_connected.Given as goal

abbrev pub invariant-loop-k : goal.invariant-loop-k
invariant-loop-k l = (e : ℕ) → IsChamber l.self e → e ≤ l.k → IsReached l.self e
