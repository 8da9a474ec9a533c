use Rattle.dd_lattice.proofs.OneChoice.{one_vertices, one_net}
use Rattle.dd_lattice.proofs.laws.a_torus_has_one_net.Goals as goal

pub returns-clause-vertices : goal.returns-clause-vertices
returns-clause-vertices c t net other is are = one_vertices t net other is are

pub returns-clause-edges : goal.returns-clause-edges
returns-clause-edges c t net other torus is are = one_net t net other torus is are

pub returns-clause-connected : goal.returns-clause-connected
returns-clause-connected c t net torus is = net.joined
