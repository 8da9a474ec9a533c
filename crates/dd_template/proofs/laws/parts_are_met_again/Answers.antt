use Rattle.dd_template.proofs.MetAgain.{met_again}
use Rattle.dd_template.proofs.laws.parts_are_met_again.Goals as goal

pub returns : goal.returns
returns c = met_again
