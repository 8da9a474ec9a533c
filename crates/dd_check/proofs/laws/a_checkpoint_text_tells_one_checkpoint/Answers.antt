use Rattle.dd_check.proofs.Exclusion.{one_checkpoint}
use Rattle.dd_check.proofs.laws.a_checkpoint_text_tells_one_checkpoint.Goals as goal

pub returns : goal.returns
returns c = one_checkpoint
