use Rattle.dd_model.proofs.Catalogues.{catalogue_unique}
use Rattle.dd_model.proofs.catalogue_laws.a_request_has_one_catalogue.Goals as goal

pub returns : goal.returns
returns c = catalogue_unique
