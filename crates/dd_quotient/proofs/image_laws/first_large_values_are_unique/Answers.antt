use Rattle.dd_quotient.proofs.ImageLemmas.{too_large_or_small, too_large_unique}
use Rattle.dd_quotient.proofs.image_laws.first_large_values_are_unique.Goals as goal

pub returns-clause-excluded : goal.returns-clause-excluded
returns-clause-excluded c s m t f g v is = too_large_or_small s m t f g v is.involutions

pub returns-clause-unique : goal.returns-clause-unique
returns-clause-unique c s m t f g v u is = too_large_unique s m t f g v u is.involutions
