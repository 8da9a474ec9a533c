use Rattle.dd_check.proofs.FaultOnce.{one_fault}
use Rattle.dd_check.proofs.laws.a_text_has_one_fault.Goals as goal

pub returns : goal.returns
returns c = one_fault
