use Rattle.dd_model.proofs.AllowedSets.{same_sets}
use Rattle.dd_model.proofs.allowed_laws.sets_with_the_same_numbers_are_equal.Goals as goal

pub returns : goal.returns
returns c = same_sets
