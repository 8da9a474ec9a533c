use Rattle.std.proofs.Common.{◌↔◌, IsTrue, sym, subst}
use Rattle.std.proofs.lemmas.Result.{IfOk-weaker}
use Rattle.dd_model.specs.Minimal.{Minimal}
use Rattle.dd_branch_degrees.proofs.assignment.Assignment.is_asked.Goals as goal

pub returns : goal.returns
returns c = rw (← c.self.view_is)
    let least = c.in_ok-are_least.ensures.0 c.if-not-branch.false in
    IfOk-weaker c.is_minimal.result (λ yes'. IsTrue yes' ↔ Minimal c.in_ok-symbol.symbol) _ (λ yes' both. (
      (λ is. (least, λ _. subst Minimal c.in_ok-symbol.ensures (both.0 is))),
      (λ is. both.1 (subst Minimal (sym c.in_ok-symbol.ensures) (is.1 c.if-not-self.false))),
    )) c.is_minimal.ensures
