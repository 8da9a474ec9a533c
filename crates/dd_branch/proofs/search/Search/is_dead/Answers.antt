use Rattle.std.proofs.Common.{◌≡◌, length, take, Some, sym, subst}
use Rattle.std.proofs.lemmas.Bool.Decides.{Decides-eqb}
use Rattle.std.proofs.lemmas.Slice.Eq.{starts_is}
use Rattle.dd_model.specs.Lists.{Begins}
use Rattle.dd_model.specs.Wanted.{IsMember}
use Rattle.dd_model.proofs.SmallerPlaces.{begins_by_test}
use Rattle.dd_front_jobs.proofs.Growth.{begins_take}
use Rattle.dd_front_jobs.specs.Under.{HasNothingUnder}
use Rattle.dd_branch.specs.Search.{IsDead}
use Rattle.dd_branch.proofs.Descents.{no_member_under_front}
use Rattle.dd_branch.proofs.search.Search.is_dead.Goals as goal

pub returns-then-dead-job : goal.returns-then-dead-job
returns-then-dead-job c begins =
    let q = c.args.self.now in
    let job = c.args.job.now in
    let dead = c.in-Some.dead in
    let none : HasNothingUnder (IsMember q) dead.size dead.prefix = subst (λ r. IsDead r (Some dead)) c.self.view_is (subst (IsDead c.self.inside.request) c.in-Some.is c.self.invariant.1) in
    let test = begins_by_test c.as_slice-then-dead-job.result.now c.as_slice.result.now c.starts_with.result
    (starts_is Decides-eqb c.as_slice.result.now c.as_slice-then-dead-job.result.now c.starts_with.result c.starts_with.ensures.value) in
    let front : take (length dead.prefix) job.prefix ≡ dead.prefix =
    begins_take dead.prefix job.prefix
    (subst (Begins dead.prefix) c.as_slice.ensures (subst (λ xs. Begins xs c.as_slice.result.now) c.as_slice-then-dead-job.ensures (test.0 begins))) in
    no_member_under_front (IsMember q) job.size (length dead.prefix) job.prefix
    (subst (HasNothingUnder (IsMember q) job.size) (sym front) (subst (λ n. HasNothingUnder (IsMember q) n dead.prefix) c.if-dead-job.true none))
