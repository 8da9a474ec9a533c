use Rattle.std.proofs.Common.{◌≡◌, ◌-◌, ◌*◌, ◌<◌, ◌≤◌, length}
use Rattle.dd_branch_tables.specs.Rows.{partial_of, depth_of}
use Rattle.dd_branch_tables.specs.Stem.{IsStem, prefix_of, size_of}
use Rattle.dd_branch_bounds.specs.Kept.{AreSides}
use Rattle.dd_test_search.proofs.share_trials.+count_nodes.Given as goal

abbrev pub decreases-count_nodes : goal.decreases-count_nodes
decreases-count_nodes l = 3 * size_of l.stem.now - length (prefix_of l.stem.now)

abbrev pub invariant-loop-number : goal.invariant-loop-number
invariant-loop-number l = record {
  same : l.stem ≡ l.fn.stem;
  stem : IsStem l.fn.stem;
  kept : AreSides l.classes (partial_of l.fn.stem.rows) l.sides;
  short : length (prefix_of l.fn.stem) < 3 * size_of l.fn.stem;
  here : l.here ≡ depth_of l.fn.stem.rows;
}
