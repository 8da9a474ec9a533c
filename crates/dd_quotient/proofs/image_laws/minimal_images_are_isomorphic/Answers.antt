use Rattle.dd_quotient.proofs.ImageLemmas.{between}
use Rattle.dd_quotient.proofs.image_laws.minimal_images_are_isomorphic.Goals as goal

pub returns : goal.returns
returns c s m t f g is a b = let way = between s m t f g is.involutions a b in (way.map, way.isomorphism)
