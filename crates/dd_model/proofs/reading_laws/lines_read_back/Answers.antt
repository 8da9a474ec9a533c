use Rattle.dd_model.proofs.WrittenLines.{line_back, read_back}
use Rattle.dd_model.proofs.reading_laws.lines_read_back.Goals as goal

pub returns : goal.returns
returns c = record { line = line_back; lines = read_back }
