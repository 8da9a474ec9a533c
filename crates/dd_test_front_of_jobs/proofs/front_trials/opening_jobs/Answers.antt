use Rattle.std.proofs.lemmas.Result.{IfOk-weaker}
use Rattle.dd_front_jobs.proofs.OpeningLaws.{opening_apart}
use Rattle.dd_test_front_of_jobs.proofs.front_trials.opening_jobs.Goals as goal

pub returns-clause-apart : goal.returns-clause-apart
returns-clause-apart c = IfOk-weaker c.opening.result _ _ (λ jobs. opening_apart c.args.request.now jobs.items) c.opening.ensures
