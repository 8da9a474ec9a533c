use Rattle.dd_quotient.proofs.ExistingImages.{image_exists}
use Rattle.dd_quotient.proofs.existence_laws.a_symbol_has_a_minimal_image.Goals as goal

pub returns : goal.returns
returns c = image_exists
