use Rattle.dd_template.proofs.MadeCurvature.{made_curvature}
use Rattle.dd_template.proofs.made_laws.the_curvature_stays.Goals as goal

pub returns : goal.returns
returns c = made_curvature
