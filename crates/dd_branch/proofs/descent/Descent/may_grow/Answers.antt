use Rattle.std.proofs.Common.{◌≡◌, IsTrue, false, sym, ap, subst}
use Rattle.dd_model.specs.Wanted.{IsMember}
use Rattle.dd_front_jobs.specs.FirstVisit.{CanFollow}
use Rattle.dd_branch_tables.specs.Stem.{prefix_of, size_of}
use Rattle.dd_branch_tables.proofs.Extensions.{none_cannot}
use Rattle.dd_branch.specs.Descent.{Descending}
use Rattle.dd_branch.proofs.Splits.{none_where_no_table}
use Rattle.dd_branch.proofs.descent.Descent.may_grow.Goals as goal

falsity : IsTrue false → ⊥
falsity f = cc

pub returns-then-not-can_follow-clause-dead : goal.returns-then-not-can_follow-clause-dead
returns-then-not-can_follow-clause-dead c =
    let d = c.args.self.now in
    let stem = c.self.inside.stem in
    let same : stem ≡ d.stem = ap (λ (e : Descending). e.stem) c.self.view_is in
    none_where_no_table (IsMember d.request) (size_of d.stem) (prefix_of d.stem) c.args.number (none_cannot (size_of d.stem) (prefix_of d.stem) c.args.number c.requires.room (λ can.
    let inside = subst (λ s. CanFollow (size_of s) (prefix_of s) c.args.number) (sym same) can in
    let one = subst (λ n. CanFollow n (prefix_of stem) c.args.number) (sym c.size.ensures) inside in
    falsity (c.if-not-can_follow.ensures.1 (subst (λ xs. CanFollow c.size.result xs c.args.number) (sym c.prefix.ensures) one))))
