use Rattle.dd_text.proofs.RowUnique.{file_once}
use Rattle.dd_text.proofs.fault_laws.a_file_has_one_fault.Goals as goal

pub returns : goal.returns
returns c = file_once
