use Rattle.std.proofs.Common.{sym, subst}
use Rattle.dd_branch_degrees.specs.Assignment.{IsAssignment}
use Rattle.dd_branch_degrees.specs.Entered.{HasForced}
use Rattle.dd_branch_degrees.proofs.Advancing.{chosen_told, entered, pushed}
use Rattle.dd_branch_degrees.proofs.assignment.Assignment.enter.Goals as goal

pub invariant_of-self : goal.invariant_of-self
invariant_of-self c =
    let is = subst IsAssignment c.self.view_is c.self.invariant in
    subst IsAssignment (sym (pushed c.args.degree c.self.view_is c.push.ensures.items))
    (chosen_told c.args.self.now c.args.degree is c.requires.room c.requires.root c.requires.tile c.requires.vertex)

pub returns-clause-entered : goal.returns-clause-entered
returns-clause-entered c =
    let new = c.force.new.self in
    let is = subst IsAssignment c.self.view_is c.self.invariant in
    entered c.args.self.now new c.args.degree is c.requires.room
    (subst (λ x. HasForced x new) (pushed c.args.degree c.self.view_is c.push.ensures.items) c.force.ensures.forced)
