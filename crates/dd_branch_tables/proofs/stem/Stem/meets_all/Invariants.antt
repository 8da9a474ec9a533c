use Rattle.std.proofs.Common.{ℕ, ◌+◌, ◌*◌, ◌≤◌, ◌<◌, take}
use Rattle.dd_front_jobs.specs.FirstVisit.{greatest}
use Rattle.dd_branch_tables.specs.Stem.{prefix_of}
use Rattle.dd_branch_tables.proofs.stem.Stem.meets_all.Given as goal

abbrev pub invariant-loop-k : goal.invariant-loop-k
invariant-loop-k l = (j : ℕ) → 1 ≤ j → j < l.k → j + 1 ≤ greatest (take (3 * j) (prefix_of l.self))
