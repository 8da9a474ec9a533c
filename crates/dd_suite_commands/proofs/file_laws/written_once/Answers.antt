use Rattle.dd_suite_commands.proofs.CanonTexts.{text_once}
use Rattle.dd_suite_commands.proofs.file_laws.written_once.Goals as goal

pub returns : goal.returns
returns c = text_once
