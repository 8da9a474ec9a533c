use Rattle.std.proofs.Common.{◌≡◌, ◌++◌, ◌∷◌, [], subst, sym, ap, ◌∙◌}
use Rattle.dd_front.specs.Allowed.{IsAllowed}
use Rattle.dd_board.specs.Desk.{IsDesk}
use Rattle.dd_board.proofs.Desks.{desk_more, next_of_call}
use Rattle.dd_board.proofs.desk.Desk.book.Goals as goal

pub invariant_of-self-2 : goal.invariant_of-self-2
invariant_of-self-2 g c =
    let f = c.self.inside.front in
    let e = c.args.event in
    let may : IsAllowed f e = subst (λ v. IsAllowed v.machine e) (sym c.self.view_is) c.requires.allowed in
    let next = next_of_call f c.step.new.self e c.requires.call may c.in_ok-step.ensures.step in
    let log : c.push_reserved.new.self.items ≡ c.self.inside.log.items ++ e ∷ [] =
    c.push_reserved.ensures.items ∙ (ap (λ es. es ++ c.in_ok-copy.copy ∷ []) c.copy_for.ensures.log ∙ ap (λ d. c.self.inside.log.items ++ d ∷ []) c.in_ok-copy.ensures.copy) in
    subst (IsDesk g.N.Naming.request g.N.Naming.jobs c.step.new.self) (sym log) (desk_more _ _ f c.step.new.self _ e c.self.invariant c.requires.call next)
