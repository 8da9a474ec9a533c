use Rattle.dd_template.proofs.MadeBranching.{made_small_branching, made_small}
use Rattle.dd_template.proofs.made_laws.branching_values_stay_small.Goals as goal

pub returns : goal.returns
returns c = record { small = made_small_branching; kept = made_small }
