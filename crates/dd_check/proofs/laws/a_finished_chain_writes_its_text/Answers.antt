use Rattle.dd_check.specs.Calls.{Done}
use Rattle.dd_check.proofs.Chained.{chain_ends}
use Rattle.dd_check.proofs.laws.a_finished_chain_writes_its_text.Goals as goal

pub returns : goal.returns
returns c q name calls bytes chain meets begun ends joined = (chain_ends q name calls bytes Done chain meets begun ends joined).end
