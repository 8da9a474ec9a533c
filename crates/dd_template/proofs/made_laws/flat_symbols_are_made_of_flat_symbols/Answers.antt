use Rattle.dd_template.proofs.MadeCurvature.{made_flat}
use Rattle.dd_template.proofs.made_laws.flat_symbols_are_made_of_flat_symbols.Goals as goal

pub returns : goal.returns
returns c = made_flat
