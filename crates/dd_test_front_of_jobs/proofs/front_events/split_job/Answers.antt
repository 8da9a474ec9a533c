use Rattle.std.proofs.Common.{◌∙◌}
use Rattle.dd_test_front_of_jobs.proofs.Allowing.{split_allowed}
use Rattle.dd_test_front_of_jobs.proofs.front_events.split_job.Goals as goal

pub step-requires-clause-allowed : goal.step-requires-clause-allowed
step-requires-clause-allowed c =
    split_allowed c.args.front.now c.new-2.result c.args.entry c.args.job.now c.in_ok-jobs.jobs.items c.from_vec-jobs.result c.requires
    (c.new-2.ensures ∙ c.request-request.ensures.request) c.from_vec-jobs.ensures c.in_ok-jobs.ensures.children
