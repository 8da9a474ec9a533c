use Rattle.dd_model.proofs.Texts.{nothing_before, all_from_beginning}
use Rattle.dd_model.proofs.catalogue_laws.nothing_is_before_the_beginning.Goals as goal

pub returns : goal.returns
returns c = record { symbol = nothing_before; list = all_from_beginning }
