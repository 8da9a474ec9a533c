use Rattle.dd_template.proofs.DualTable.{made_by_dual}
use Rattle.dd_suite_commands.proofs.file_laws.the_dual_is_made_by_its_table.Goals as goal

pub returns : goal.returns
returns c = made_by_dual
