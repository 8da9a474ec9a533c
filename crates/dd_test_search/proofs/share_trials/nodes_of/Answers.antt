use Rattle.std.proofs.Common.{sym, ◌∙◌}
use Rattle.dd_branch_tables.specs.Rows.{partial_of}
use Rattle.dd_test_search.proofs.share_trials.nodes_of.Goals as goal

pub count_nodes-requires-clause-kept : goal.count_nodes-requires-clause-kept
count_nodes-requires-clause-kept c = c.start-start.ensures (partial_of c.new-stem.result.rows) (c.new-stem.ensures.size ∙ sym c.of-classes.ensures.size)
