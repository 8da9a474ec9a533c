use Rattle.std.proofs.Common.{◌⊎◌, ◌↔◌, ◌≤◌, ◌<◌, ℕ}
use Rattle.dd_model.specs.Allowed.{IsIn}
use Rattle.dd_check.proofs.sets.add_range.Given as goal

abbrev pub invariant-loop-number : goal.invariant-loop-number
invariant-loop-number l = (m : ℕ) → IsIn l.set m ↔ (IsIn l.initial.set m ⊎ ((l.low ≤ m) × (m < l.number)))
