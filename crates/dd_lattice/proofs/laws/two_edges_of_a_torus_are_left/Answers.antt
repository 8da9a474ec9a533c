use Rattle.dd_lattice.proofs.TorusLaw.{trees, crossings, two_left}
use Rattle.dd_lattice.proofs.laws.two_edges_of_a_torus_are_left.Goals as goal

pub returns-clause-trees : goal.returns-clause-trees
returns-clause-trees c t edges vertices kinds torus cells are of_vertices = trees t torus edges cells kinds are vertices of_vertices

pub returns-clause-crossings : goal.returns-clause-crossings
returns-clause-crossings c t edges tiles kinds torus cells are of_tiles = crossings t torus edges cells kinds are tiles of_tiles

pub returns-clause-left : goal.returns-clause-left
returns-clause-left c t edges kinds torus cells are = two_left t torus edges cells kinds are
