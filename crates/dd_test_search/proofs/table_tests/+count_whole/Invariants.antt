use Rattle.std.proofs.Common.{◌≡◌, ◌-◌, ◌*◌, ◌<◌, ◌≤◌, length}
use Rattle.dd_branch_tables.specs.Rows.{depth_of}
use Rattle.dd_branch_tables.specs.Stem.{IsStem, prefix_of, size_of}
use Rattle.dd_test_search.proofs.table_tests.+count_whole.Given as goal

abbrev pub decreases-count_whole : goal.decreases-count_whole
decreases-count_whole l = 3 * size_of l.stem.now - length (prefix_of l.stem.now)

abbrev pub invariant-loop-number : goal.invariant-loop-number
invariant-loop-number l = record {
  same : l.stem ≡ l.fn.stem;
  stem : IsStem l.fn.stem;
  short : length (prefix_of l.fn.stem) < 3 * size_of l.fn.stem;
  mark : l.mark ≡ depth_of l.fn.stem.rows;
}
