use Rattle.std.proofs.Common.{IsTrue, false, sym, subst}
use Rattle.dd_front_jobs.specs.FirstVisit.{CanFollow}
use Rattle.dd_branch_tables.specs.Stem.{prefix_of, size_of}
use Rattle.dd_branch_tables.proofs.Extensions.{none_cannot}
use Rattle.dd_invol.proofs.splits.may_grow.Goals as goal

falsity : IsTrue false → ⊥
falsity f = cc

pub returns-then-not-can_follow-clause-dead : goal.returns-then-not-can_follow-clause-dead
returns-then-not-can_follow-clause-dead c =
    let stem = c.args.stem.now in
    none_cannot (size_of stem) (prefix_of stem) c.args.number c.requires.room (λ can.
    let one = subst (λ n. CanFollow n (prefix_of stem) c.args.number) (sym c.size.ensures) can in
    falsity (c.if-not-can_follow.ensures.1 (subst (λ xs. CanFollow c.size.result xs c.args.number) (sym c.prefix.ensures) one)))
