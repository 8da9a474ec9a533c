use Rattle.std.proofs.Common.{ℕ, ◌≤◌}
use Rattle.dd_model.specs.Symbol.{degree}
use Rattle.dd_model.specs.Allowed.{IsIn}
use Rattle.dd_plain.proofs.wanted.has_degrees_in.Given as goal

abbrev pub invariant-loop-k : goal.invariant-loop-k
invariant-loop-k l = (d : ℕ) → 1 ≤ d → d ≤ l.k → IsIn l.set (degree l.s l.pair d)
