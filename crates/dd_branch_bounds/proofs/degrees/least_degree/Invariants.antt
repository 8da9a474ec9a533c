use Rattle.std.proofs.Common.{ℕ, ◌≤◌}
use Rattle.dd_branch_bounds.specs.Shares.{IsAllowed}
use Rattle.dd_branch_bounds.proofs.degrees.least_degree.Given as goal

abbrev pub invariant-loop-degree : goal.invariant-loop-degree
invariant-loop-degree l = (m : ℕ) → IsAllowed l.request l.pair m → l.from ≤ m → l.degree ≤ m
