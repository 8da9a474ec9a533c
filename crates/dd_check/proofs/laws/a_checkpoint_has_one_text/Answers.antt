use Rattle.dd_check.proofs.OneSpelling.{one_text}
use Rattle.dd_check.proofs.laws.a_checkpoint_has_one_text.Goals as goal

pub returns : goal.returns
returns c = one_text
