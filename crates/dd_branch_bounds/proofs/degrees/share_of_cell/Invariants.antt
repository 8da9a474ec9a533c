use Rattle.std.proofs.Common.{ℕ, ◌*◌, ◌≤◌}
use Rattle.dd_model.specs.Wanted.{IsCrystallographic}
use Rattle.dd_branch_bounds.specs.Shares.{IsAllowed}
use Rattle.dd_branch_bounds.proofs.degrees.share_of_cell.Given as goal

abbrev pub invariant-loop-branching : goal.invariant-loop-branching
invariant-loop-branching l = (v : ℕ) → IsCrystallographic v → IsAllowed l.request l.pair (v * l.turns) → l.branching ≤ v
