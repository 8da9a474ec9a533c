use Rattle.dd_name.proofs.OrbifoldLemmas.{orbifold_unique}
use Rattle.dd_name.proofs.laws.a_symbol_has_one_orbifold.Goals as goal

pub returns : goal.returns
returns c s o p is a b = orbifold_unique s o p is a b
