use Rattle.dd_template.proofs.DualTable.{made_by_dual}
use Rattle.dd_template.proofs.laws.duals_are_made.Goals as goal

pub returns : goal.returns
returns c = made_by_dual
