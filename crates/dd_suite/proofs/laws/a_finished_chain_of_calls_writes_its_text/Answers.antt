use Rattle.std.proofs.Common.{map}
use Rattle.dd_check.specs.Calls.{Done}
use Rattle.dd_check.proofs.Chained.{chain_ends}
use Rattle.dd_suite.specs.Chains.{call_of}
use Rattle.dd_suite.proofs.ProgramCalls.{all_meet}
use Rattle.dd_suite.proofs.laws.a_finished_chain_of_calls_writes_its_text.Goals as goal

pub returns : goal.returns
returns c q name calls bytes all chain begun ends joined = (chain_ends q name (map call_of calls) bytes Done chain (all_meet calls all) begun ends joined).end
