use Rattle.std.proofs.Common.{rules}
use Rattle.dd_pages_and_checkpoints.proofs.run.Run.limit.Goals as goal

pub returns-in-Some : goal.returns-in-Some
returns-in-Some c = search rules
