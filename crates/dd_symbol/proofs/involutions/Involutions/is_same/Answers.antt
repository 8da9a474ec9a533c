use Rattle.std.proofs.Common.{◌∙◌, sym, ap, subst, eqb-true, arith}
use Rattle.dd_model.specs.Involutions.{HaveSameInvolutions}
use Rattle.dd_symbol.specs.Images.{rows_of}
use Rattle.dd_symbol.proofs.TableLemmas.{same_from_front, front_from_same}
use Rattle.dd_symbol.proofs.involutions.Involutions.is_same.Goals as goal

pub has_front_of-requires-clause-other : goal.has_front_of-requires-clause-other
has_front_of-requires-clause-other c = let long = c.other.inside.rows.length in omega arith

pub returns-then-self-other : goal.returns-then-self-other
returns-then-self-other c =
    let a = c.self.inside.rows in
    let b = c.other.inside.rows in (
      (λ yes. subst (λ s. HaveSameInvolutions s c.args.self.now) c.other.view_is
          (subst (λ s. HaveSameInvolutions (rows_of b) s) c.self.view_is
          (same_from_front a.size b.size a.numbers b.numbers c.if-self-other.true (c.has_front_of.ensures.0 yes)))),
      (λ same. c.has_front_of.ensures.1 (front_from_same a.size b.size a.numbers b.numbers a.length b.length
          (subst (λ s. HaveSameInvolutions s (rows_of a)) (sym c.other.view_is)
          (subst (λ s. HaveSameInvolutions c.args.other.now s) (sym c.self.view_is) same)))),
    )

pub returns-else-self-other : goal.returns-else-self-other
returns-else-self-other c = (
  (λ yes. absurd (c.if-self-other.false (eqb-true c.self.inside.rows.size c.other.inside.rows.size yes))),
  (λ same. absurd (c.if-self-other.false (ap (λ s. s.size) c.self.view_is ∙ same.size ∙ ap (λ s. s.size) (sym c.other.view_is)))),
)
