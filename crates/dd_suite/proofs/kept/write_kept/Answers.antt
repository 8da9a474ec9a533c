use Rattle.dd_check.specs.ChainStarts.{first_start}
use Rattle.dd_suite.proofs.RunCalls.{kept_outcome, same_run}
use Rattle.dd_suite.proofs.kept.write_kept.Goals as goal

pub returns-clause-outcome : goal.returns-clause-outcome
returns-clause-outcome g c =
    kept_outcome c.args.portion.now c.args.name.now c.args.pace.round c.args.pause c.keep_run.result _ _
    (same_run c.in-Ok.run' (first_start c.args.portion.now) c.args.name.now c.args.pace c.args.pause c.keep_run.result _ _ c.in-Ok.ensures.start c.in-Ok.ensures.pace c.in-Ok.ensures.pause c.keep_run.ensures.run)
