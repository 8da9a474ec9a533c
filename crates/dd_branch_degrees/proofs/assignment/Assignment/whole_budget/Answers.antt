use Rattle.std.proofs.Common.{sym, ap, ◌∙◌, subst, arith}
use Rattle.dd_branch_degrees.specs.Assignment.{Assigned, IsMemberUnder, prefix_of}
use Rattle.dd_branch_degrees.proofs.Advancing.{spends}
use Rattle.dd_branch_degrees.proofs.assignment.Assignment.whole_budget.Goals as goal
use Rattle.dd_branch_degrees.proofs.assignment.Assignment.whole_budget.Goals.{then-least-whole-via-then-least-whole, then-least-whole-via-else-least-whole+then-self-whole}

pub returns-then-least-whole-clause-left : goal.returns-then-least-whole-clause-left
returns-then-least-whole-clause-left c s under =
    let has = spends _ c.self.invariant s (subst (λ a. IsMemberUnder a (prefix_of a) s) (sym c.self.view_is) under) in
    let most = has.most 0 (omega arith) in
    let least = has.least 0 (omega arith) in
    let size = c.size.ensures ∙ ap (λ (a : Assigned). a.table.size) (sym c.self.view_is) in
    elim c.then-least-whole.branch [
      | then-least-whole-via-then-least-whole w ↦ let over = w.if-least-whole.true in absurd (omega (arith, least, size, over))
      | then-least-whole-via-else-least-whole+then-self-whole w ↦ let short = w.if-self-whole.true in absurd (omega (arith, most, size, short))
    ]
