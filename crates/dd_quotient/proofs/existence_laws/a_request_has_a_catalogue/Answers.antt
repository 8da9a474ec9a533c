use Rattle.dd_quotient.proofs.Texts.{catalogue_exists}
use Rattle.dd_quotient.proofs.existence_laws.a_request_has_a_catalogue.Goals as goal

pub returns : goal.returns
returns c = catalogue_exists
