use Rattle.dd_quotient.proofs.ImageLemmas.{image_of_minimal, order_of_identity}
use Rattle.dd_quotient.proofs.image_laws.minimal_symbols_are_their_images.Goals as goal

pub returns-clause-image : goal.returns-clause-image
returns-clause-image c = image_of_minimal

pub returns-clause-order : goal.returns-clause-order
returns-clause-order c = order_of_identity
