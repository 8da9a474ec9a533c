use Rattle.dd_check.proofs.ChainParts.{one_text}
use Rattle.dd_check.proofs.laws.a_chain_is_joined_once.Goals as goal

pub returns : goal.returns
returns c = one_text
