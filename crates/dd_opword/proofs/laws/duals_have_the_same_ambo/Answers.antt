use Rattle.std.proofs.Common.{sym, subst}
use Rattle.dd_model.specs.Isomorphic.{IsIsomorphism}
use Rattle.dd_template.specs.Made.{made}
use Rattle.dd_template.specs.Named.{ambo}
use Rattle.dd_template.proofs.DualTable.{made_by_dual}
use Rattle.dd_opword.proofs.AmboOfDual.{parts_exchanged, ambo_of_dual}
use Rattle.dd_opword.proofs.laws.duals_have_the_same_ambo.Goals as goal

pub returns : goal.returns
returns c s is =
    (parts_exchanged s, subst (λ t. IsIsomorphism (made ambo t) (made ambo s) (parts_exchanged s)) (sym (made_by_dual s is)) (ambo_of_dual s is))
