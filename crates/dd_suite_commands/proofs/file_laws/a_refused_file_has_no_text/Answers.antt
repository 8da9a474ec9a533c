use Rattle.dd_suite_commands.proofs.FileTexts.{refused_without_text}
use Rattle.dd_suite_commands.proofs.file_laws.a_refused_file_has_no_text.Goals as goal

pub returns : goal.returns
returns c = refused_without_text
