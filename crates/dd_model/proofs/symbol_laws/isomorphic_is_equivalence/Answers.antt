use Rattle.dd_model.proofs.Isomorphisms.{Isomorphic-refl, Isomorphic-sym, Isomorphic-trans}
use Rattle.dd_model.proofs.symbol_laws.isomorphic_is_equivalence.Goals as goal

pub returns : goal.returns
returns c = record { reflexive = Isomorphic-refl; symmetric = Isomorphic-sym; transitive = Isomorphic-trans }
