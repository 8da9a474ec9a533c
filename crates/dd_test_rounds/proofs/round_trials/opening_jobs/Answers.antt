use Rattle.std.proofs.lemmas.Result.{IfOk-weaker}
use Rattle.dd_front_jobs.proofs.OpeningLaws.{opening_apart, opening_jobs}
use Rattle.dd_test_rounds.proofs.round_trials.opening_jobs.Goals as goal

pub returns-clause-apart : goal.returns-clause-apart
returns-clause-apart c = IfOk-weaker c.opening.result _ _ (λ jobs. opening_apart c.args.request.now jobs.items) c.opening.ensures

pub returns-clause-all : goal.returns-clause-all
returns-clause-all c = IfOk-weaker c.opening.result _ _ (λ jobs. opening_jobs c.args.request.now jobs.items) c.opening.ensures
