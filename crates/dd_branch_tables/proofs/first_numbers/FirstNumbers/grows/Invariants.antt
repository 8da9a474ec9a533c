use Rattle.std.proofs.Common.{◌↔◌, ◌<◌, ◌≤◌, ◌+◌, IsTrue, ℕ, get_or}
use Rattle.dd_branch_tables.proofs.first_numbers.FirstNumbers.grows.Given as goal

abbrev pub invariant-loop-place : goal.invariant-loop-place
invariant-loop-place l = IsTrue l.grows ↔ ((u : ℕ) → u < l.place → get_or l.self-inside.numbers u 0 ≤ get_or l.self-inside.mosts u 0 + 1)
