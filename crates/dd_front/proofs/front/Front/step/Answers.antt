use Rattle.std.proofs.Common.{inl, inr, ⊎_elim, List, sym, subst}
use Rattle.dd_model.specs.Symbol.{Symbol}
use Rattle.dd_front.specs.Allowed.{IsAllowed}
use Rattle.dd_front.specs.Step.{IsStep}
use Rattle.dd_front.proofs.Lasting.{in_order_found}
use Rattle.dd_front.proofs.Emitted.{emitted_where}
use Rattle.dd_front.proofs.front.Front.step.Goals as goal

pub set_state-requires-in-Finish : goal.set_state-requires-in-Finish
set_state-requires-in-Finish c =
    let f = c.args.self.now in
    ⊎_elim (λ none. inl none) (λ may. inr (in_order_found f.request may.out.job c.in-Finish.list may.under)) (subst (IsAllowed f) c.in-Finish.is c.requires.allowed)

pub returns-in-Emit-clause-step : goal.returns-in-Emit-clause-step
returns-in-Emit-clause-step c =
    let f = c.args.self.now in
    subst (λ e. (emitted : List Symbol) × IsStep f e c.emit.new.self emitted) (sym c.in-Emit.is)
    (emitted_where f c.emit.new.self c.emit.result c.emit.ensures.none c.emit.ensures.members (subst (IsAllowed f) c.in-Emit.is c.requires.allowed))
