use Rattle.std.proofs.Common.{rules}
use Rattle.dd_model.proofs.jobs.Job.try_copy.Goals as goal

pub returns : goal.returns
returns c = search rules
