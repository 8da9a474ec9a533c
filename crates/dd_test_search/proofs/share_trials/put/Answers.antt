use Rattle.dd_branch_bounds.proofs.EndGrowth.{kept_of_longer}
use Rattle.dd_test_search.proofs.share_trials.put.Goals as goal

pub learn-requires : goal.learn-requires
learn-requires c =
    let learnt = c.if-not-put.ensures.learnt in
    record { kept = kept_of_longer c.args.rows.now c.put.new.self (record { classes = c.args.classes.now; sides = c.args.sides.now }) learnt.size learnt.undone c.requires.kept }
