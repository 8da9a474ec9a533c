use Rattle.dd_model.proofs.WantedDegrees.{wanted_by_least_degrees}
use Rattle.dd_model.proofs.allowed_laws.sets_from_a_number_ask_for_all_degrees_of_at_least_it.Goals as goal

pub returns : goal.returns
returns c = wanted_by_least_degrees
