use Rattle.dd_model.proofs.Isomorphisms.{Isomorphic-sym, Isomorphic-trans}
use Rattle.dd_model.proofs.Codes.{least_unique}
use Rattle.dd_model.proofs.symbol_laws.least_forms_are_unique.Goals as goal

pub returns : goal.returns
returns c s t u is a b = least_unique t u a.symbol b.symbol a.least b.least
    (Isomorphic-trans t s u a.symbol.table (Isomorphic-sym s t is.table a.renumbering) b.renumbering)
