use Rattle.dd_cells.proofs.CurvatureLemmas.{curvature_unique, flat_by_curvature}
use Rattle.dd_cells.proofs.laws.a_symbol_determines_its_curvature.Goals as goal

pub returns-clause-unique : goal.returns-clause-unique
returns-clause-unique c = curvature_unique

pub returns-clause-flat : goal.returns-clause-flat
returns-clause-flat c = flat_by_curvature
