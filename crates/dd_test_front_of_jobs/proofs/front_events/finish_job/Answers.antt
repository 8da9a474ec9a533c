use Rattle.std.proofs.Common.{◌∙◌}
use Rattle.dd_test_front_of_jobs.proofs.Allowing.{finish_allowed}
use Rattle.dd_test_front_of_jobs.proofs.front_events.finish_job.Goals as goal

pub step-requires-clause-allowed : goal.step-requires-clause-allowed
step-requires-clause-allowed c =
    finish_allowed c.args.front.now c.new-2.result c.args.entry c.args.job.now c.in_ok-list.list c.in_ok-list-2.list c.requires
    (c.new-2.ensures ∙ c.request-request.ensures.request) c.in_ok-list-2.ensures c.in_ok-list.ensures.members
