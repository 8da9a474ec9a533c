use Rattle.std.proofs.Common.{rules}
use Rattle.dd_pages_and_checkpoints.proofs.run.Run.first.Goals as goal

pub returns-clause-start : goal.returns-clause-start
returns-clause-start c = search rules
