use Rattle.dd_model.proofs.ReadingExamples.{one_symbol}
use Rattle.dd_model.proofs.reading_laws.a_file_of_one_symbol.Goals as goal

pub returns : goal.returns
returns c = one_symbol
