use Rattle.dd_check.proofs.Chained.{chain_writes}
use Rattle.dd_check.proofs.laws.a_begun_chain_writes_a_front.Goals as goal

pub returns : goal.returns
returns c = chain_writes
