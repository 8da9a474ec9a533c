use Rattle.std.proofs.Common.{◌≡◌, ◌≤◌, ℕ}
use Rattle.dd_model.specs.Symbol.{IsChamber, item}
use Rattle.dd_quotient.proofs.minimal.is_minimal.Given as goal

abbrev pub invariant-loop-k : goal.invariant-loop-k
invariant-loop-k l = (e : ℕ) → IsChamber l.s e → e ≤ l.k → item l.classes.items e ≡ e
