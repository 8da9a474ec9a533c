use Rattle.std.proofs.Common.{sym, ◌∙◌}
use Rattle.dd_branch_tables.specs.Rows.{partial_of}
use Rattle.dd_test_search.proofs.share_trials.is_empty.Goals as goal

pub rules_out-requires : goal.rules_out-requires
rules_out-requires c = record { kept = c.start.ensures (partial_of c.empty-rows.result) (c.empty-rows.ensures.size ∙ sym c.of-classes.ensures.size) }
