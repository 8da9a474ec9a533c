use Rattle.dd_check.specs.Calls.{Paused}
use Rattle.dd_check.proofs.Chained.{chain_ends}
use Rattle.dd_check.proofs.laws.a_paused_chain_writes_the_first_lines.Goals as goal

pub returns : goal.returns
returns c q name calls bytes chain meets begun ends joined = (chain_ends q name calls bytes Paused chain meets begun ends joined).end
