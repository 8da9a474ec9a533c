use Rattle.dd_text.proofs.RowExclusion.{file_excluded}
use Rattle.dd_text.proofs.fault_laws.a_faulty_file_spells_nothing.Goals as goal

pub returns : goal.returns
returns c = file_excluded
