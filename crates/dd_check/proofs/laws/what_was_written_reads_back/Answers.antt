use Rattle.dd_check.proofs.ShortTexts.{written_reads_back}
use Rattle.dd_check.proofs.laws.what_was_written_reads_back.Goals as goal

pub returns : goal.returns
returns c check text = written_reads_back check text
