use Rattle.std.proofs.Common.{sym, subst}
use Rattle.dd_model.specs.Wanted.{IsMember}
use Rattle.dd_branch_tables.specs.Stem.{prefix_of, size_of}
use Rattle.dd_front_jobs.specs.Under.{IsUnder}
use Rattle.dd_branch.proofs.descent.Descent.descend.Goals as goal

pub returns-then-is_dead-clause-dead : goal.returns-then-is_dead-clause-dead
returns-then-is_dead-clause-dead c s under =
    let old = c.args.self.now in
    let mid = c.put.new.self in
    let told = c.if-not-put.ensures.alive in
    let one : IsUnder (IsMember old.request) (size_of old.stem) (prefix_of mid.stem) s = (told.same.same s).1 under in
    let two = subst (λ n. IsUnder (IsMember old.request) n (prefix_of mid.stem) s) (sym told.same_size) one in
    c.is_dead.ensures.dead c.if-is_dead.true s (subst (λ q. IsUnder (IsMember q) (size_of mid.stem) (prefix_of mid.stem) s) (sym told.same_request) two)
