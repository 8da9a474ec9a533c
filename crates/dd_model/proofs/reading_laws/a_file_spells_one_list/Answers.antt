use Rattle.dd_model.proofs.ReadingRows.{reads_once}
use Rattle.dd_model.proofs.reading_laws.a_file_spells_one_list.Goals as goal

pub returns : goal.returns
returns c = reads_once
