use Rattle.std.proofs.Common.{ℕ, ◌-◌, ◌≤◌}
use Rattle.dd_model.specs.Allowed.{IsIn}
use Rattle.dd_check.proofs.sets.last_of_run.Given as goal

abbrev pub invariant-loop-last : goal.invariant-loop-last
invariant-loop-last l = record { within : (l.low ≤ l.last) × (l.last ≤ 216); all : (m : ℕ) → l.low ≤ m → m ≤ l.last → IsIn l.set m }

abbrev pub decreases-loop-last : goal.decreases-loop-last
decreases-loop-last l = 217 - l.last
