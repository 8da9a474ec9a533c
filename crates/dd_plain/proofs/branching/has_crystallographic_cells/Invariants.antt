use Rattle.std.proofs.Common.{ℕ, ◌≤◌}
use Rattle.dd_model.specs.Cell.{IsBranching}
use Rattle.dd_model.specs.Wanted.{IsCrystallographic}
use Rattle.dd_plain.proofs.branching.has_crystallographic_cells.Given as goal

abbrev pub invariant-loop-k : goal.invariant-loop-k
invariant-loop-k l = (d v : ℕ) → 1 ≤ d → d ≤ l.k → IsBranching l.s l.pair d v → IsCrystallographic v
