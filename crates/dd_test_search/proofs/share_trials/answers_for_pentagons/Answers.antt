use Rattle.std.proofs.Common.{sym, ◌∙◌}
use Rattle.dd_branch_tables.specs.Rows.{partial_of}
use Rattle.dd_test_search.proofs.share_trials.answers_for_pentagons.Goals as goal

pub rules_out-before-requires : goal.rules_out-before-requires
rules_out-before-requires c = record { kept = c.start-sides.ensures (partial_of c.empty-rows.result) (c.empty-rows.ensures.size ∙ sym c.of-classes.ensures.size) }

pub put-requires-clause-kept : goal.put-requires-clause-kept
put-requires-clause-kept c = c.start-sides.ensures (partial_of c.empty-rows.result) (c.empty-rows.ensures.size ∙ sym c.of-classes.ensures.size)
