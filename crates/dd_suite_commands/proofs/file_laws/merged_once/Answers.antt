use Rattle.dd_suite_commands.proofs.MergedTexts.{merged_text_unique}
use Rattle.dd_suite_commands.proofs.file_laws.merged_once.Goals as goal

pub returns : goal.returns
returns c = merged_text_unique
