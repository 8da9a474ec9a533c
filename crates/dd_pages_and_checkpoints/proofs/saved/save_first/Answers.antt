use Rattle.std.proofs.Common.{rules}
use Rattle.dd_pages_and_checkpoints.proofs.saved.save_first.Goals as goal

pub returns-clause-saves : goal.returns-clause-saves
returns-clause-saves g c = search rules
