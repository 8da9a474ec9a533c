use Rattle.std.proofs.Common.{sym}
use Rattle.dd_cells.proofs.OrbitCounts.{twice_orbits}
use Rattle.dd_cells.proofs.SurfaceLemmas.{fixed_of_chains}
use Rattle.dd_cells.proofs.laws.fixed_chambers_are_the_ends_of_chains.Goals as goal

pub returns-clause-chains : goal.returns-clause-chains
returns-clause-chains _ s p cells is are = fixed_of_chains s is p cells are

pub returns-clause-orbits : goal.returns-clause-orbits
returns-clause-orbits _ s i is = sym (twice_orbits s is.involutions i)
