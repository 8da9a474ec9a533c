use Rattle.dd_suite_commands.proofs.MergedTexts.{refused_without_merge}
use Rattle.dd_suite_commands.proofs.file_laws.refused_files_have_no_merged_text.Goals as goal

pub returns : goal.returns
returns c = refused_without_merge
