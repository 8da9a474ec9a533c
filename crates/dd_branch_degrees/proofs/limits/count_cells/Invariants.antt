use Rattle.std.proofs.Common.{◌≡◌, ◌≤◌}
use Rattle.dd_branch_degrees.specs.Budget.{cells_to}
use Rattle.dd_branch_degrees.proofs.limits.count_cells.Given as goal

abbrev pub invariant-loop-k : goal.invariant-loop-k
invariant-loop-k l = record {
  told : l.cells ≡ cells_to l.places l.k;
  few : l.cells ≤ l.k;
}
