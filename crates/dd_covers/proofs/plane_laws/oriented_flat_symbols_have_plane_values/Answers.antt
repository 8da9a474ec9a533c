use Rattle.dd_covers.proofs.PlaneLemmas.{plane_law}
use Rattle.dd_covers.proofs.PlaneUses.{plane_crystal, plane_multiples}
use Rattle.dd_covers.proofs.plane_laws.oriented_flat_symbols_have_plane_values.Goals as goal

pub returns-clause-values : goal.returns-clause-values
returns-clause-values c s cells is connected oriented flat told = plane_law s is connected oriented flat cells told

pub returns-clause-crystal : goal.returns-clause-crystal
returns-clause-crystal c s is connected oriented flat = plane_crystal s is connected oriented flat

pub returns-clause-multiples : goal.returns-clause-multiples
returns-clause-multiples c s k is connected oriented flat great = plane_multiples s is connected oriented flat k great
