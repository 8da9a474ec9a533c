use Rattle.dd_model.proofs.Codes.{least_unique}
use Rattle.dd_model.proofs.catalogue_laws.isomorphic_least_symbols_are_equal.Goals as goal

pub returns : goal.returns
returns c = least_unique
