use Rattle.dd_cells.proofs.SurfaceLemmas.{curvature_of_surface, multiple_of_small}
use Rattle.dd_cells.proofs.laws.the_curvature_is_that_of_the_surface.Goals as goal

pub returns-clause-value : goal.returns-clause-value
returns-clause-value c = curvature_of_surface

pub returns-clause-multiple : goal.returns-clause-multiple
returns-clause-multiple _ s p cells small are = multiple_of_small s small p cells are
