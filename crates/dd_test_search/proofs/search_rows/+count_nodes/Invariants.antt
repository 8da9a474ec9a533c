use Rattle.std.proofs.Common.{◌≡◌, ◌-◌, ◌*◌, ◌<◌, length}
use Rattle.dd_branch_tables.specs.Stem.{prefix_of, size_of}
use Rattle.dd_test_search.proofs.search_rows.+count_nodes.Given as goal

abbrev pub decreases-count_nodes : goal.decreases-count_nodes
decreases-count_nodes l = 3 * size_of l.descent.now.stem - length (prefix_of l.descent.now.stem)

abbrev pub invariant-loop-number : goal.invariant-loop-number
invariant-loop-number l = record {
  same : l.descent ≡ l.fn.descent;
  short : length (prefix_of l.fn.descent.stem) < 3 * size_of l.fn.descent.stem;
  mark : l.mark ≡ length l.fn.descent.levels;
}

abbrev pub decreases-loop-number : goal.decreases-loop-number
decreases-loop-number l = l.left.bits
