use Rattle.std.proofs.Common.{◌≡◌, ℕ, ◌+◌, ◌-◌, ◌<◌, ◌≤◌, length}
use Rattle.dd_model.specs.Symbol.{item}
use Rattle.dd_text.proofs.images.next_unknown.Given as goal

abbrev pub invariant-loop-first : goal.invariant-loop-first
invariant-loop-first l = record {
  from : l.chamber ≤ l.first;
  known : (x : ℕ) → l.chamber ≤ x → x < l.first → item l.images x ≡ 0 → ⊥;
  last : l.chamber ≤ length l.images + 1 → l.first ≤ length l.images + 1;
}

abbrev pub decreases-loop-first : goal.decreases-loop-first
decreases-loop-first l = length l.images + 1 - l.first
