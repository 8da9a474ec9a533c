use Rattle.dd_text.proofs.RowExclusion.{spelled_if}
use Rattle.dd_text.proofs.file_reader.read_file.Goals as goal

pub returns-clause-spelled : goal.returns-clause-spelled
returns-clause-spelled c = spelled_if c.args.bytes.now c.read.result c.read.ensures.reads c.read.ensures.why
