use Rattle.dd_model.proofs.OneChamberCatalogue.{catalogue_of_one, text_of_one}
use Rattle.dd_model.proofs.worked.single_chambers_are_three.Goals as goal

pub returns : goal.returns
returns c = record { catalogue = catalogue_of_one; text = text_of_one }
