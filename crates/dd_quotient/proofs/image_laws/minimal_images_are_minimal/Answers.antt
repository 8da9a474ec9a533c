use Rattle.dd_quotient.proofs.OntoLemmas.{connected-onto}
use Rattle.dd_quotient.proofs.ImageLemmas.{image_minimal}
use Rattle.dd_quotient.proofs.image_laws.minimal_images_are_minimal.Goals as goal

pub returns-clause-minimal : goal.returns-clause-minimal
returns-clause-minimal c s m f is = image_minimal s m f is.involutions

pub returns-clause-connected : goal.returns-clause-connected
returns-clause-connected c s m f is all image = connected-onto s m f is image.morphism image.onto image.symbol.table.chambers all
