use Rattle.dd_covers.proofs.TorusCovers.{torus_cover_exists, torus_cover_once, torus_above, morphism_above, sheets_above}
use Rattle.dd_covers.proofs.torus_laws.flat_symbols_are_covered_by_tori.Goals as goal

pub returns-clause-exists : goal.returns-clause-exists
returns-clause-exists c = torus_cover_exists

pub returns-clause-one : goal.returns-clause-one
returns-clause-one c = torus_cover_once

pub returns-clause-torus : goal.returns-clause-torus
returns-clause-torus c = torus_above

pub returns-clause-morphism : goal.returns-clause-morphism
returns-clause-morphism c = morphism_above

pub returns-clause-sheets : goal.returns-clause-sheets
returns-clause-sheets c = sheets_above
