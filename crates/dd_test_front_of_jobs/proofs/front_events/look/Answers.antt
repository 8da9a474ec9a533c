use Rattle.dd_test_front_of_jobs.proofs.front_events.look.Goals as goal

pub step-requires-clause-allowed : goal.step-requires-clause-allowed
step-requires-clause-allowed c = c.allowed.ensures.0 c.if-not-allowed.false
