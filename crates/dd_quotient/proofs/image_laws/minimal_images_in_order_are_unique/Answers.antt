use Rattle.dd_quotient.proofs.ImageLemmas.{order-map, order-image}
use Rattle.dd_quotient.proofs.image_laws.minimal_images_in_order_are_unique.Goals as goal

pub returns-clause-image : goal.returns-clause-image
returns-clause-image c s m t f g is a first b second = order-image s m t f g is.involutions a b first second

pub returns-clause-map : goal.returns-clause-map
returns-clause-map c s m t f g is a first b second = order-map s m t f g a b first second
