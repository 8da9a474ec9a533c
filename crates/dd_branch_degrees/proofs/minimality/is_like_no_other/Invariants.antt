use Rattle.std.proofs.Common.{◌≡◌, ℕ, ◌≤◌}
use Rattle.dd_model.specs.Symbol.{IsChamber}
use Rattle.dd_model.specs.Minimal.{Alike}
use Rattle.dd_branch_degrees.proofs.minimality.is_like_no_other.Given as goal

abbrev pub invariant-loop-k : goal.invariant-loop-k
invariant-loop-k l = (e : ℕ) → IsChamber l.symbol e → e ≤ l.k → Alike l.symbol l.chamber e → l.chamber ≡ e
