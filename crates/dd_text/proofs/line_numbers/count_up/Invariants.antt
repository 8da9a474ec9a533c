use Rattle.std.proofs.Common.{◌≡◌, ℕ, ◌+◌, ◌^◌, ◌<◌, ◌≤◌, List, length}
use Rattle.dd_text.specs.Numbered.{IsNumbered}
use Rattle.dd_text.proofs.CountingUp.{IsCarrying}
use Rattle.dd_text.proofs.line_numbers.count_up.Given as goal

abbrev pub invariant-loop-place : goal.invariant-loop-place
invariant-loop-place l = record {
  some : 3 ≤ l.place;
  within : l.place ≤ l.end;
  length : length l.text.items ≡ length l.initial.text.items;
  carrying : (k : ℕ) (rest : List ℕ) → k + 1 < 10 ^ 64 → IsNumbered k rest l.initial.text.items l.end → IsCarrying k rest l.place l.text.items;
}

abbrev pub decreases-loop-place : goal.decreases-loop-place
decreases-loop-place l = l.place
