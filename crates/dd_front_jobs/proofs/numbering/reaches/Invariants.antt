use Rattle.std.proofs.Common.{◌≡◌, ℕ, ◌+◌, ◌<◌, get_or}
use Rattle.dd_front_jobs.proofs.numbering.reaches.Given as goal

abbrev pub invariant-loop-told : goal.invariant-loop-told
invariant-loop-told l = (u : ℕ) → u < l.told-index → get_or l.prefix u 0 ≡ l.row + 1 → ⊥
