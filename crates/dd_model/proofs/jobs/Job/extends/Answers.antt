use Rattle.std.proofs.Common.{◌↔◌, IsTrue, subst}
use Rattle.std.proofs.lemmas.Slice.Eq.{starts_is}
use Rattle.std.proofs.lemmas.Bool.Decides.{Decides-eqb}
use Rattle.dd_model.specs.Lists.{Begins}
use Rattle.dd_model.proofs.SmallerPlaces.{begins_by_test}
use Rattle.dd_model.proofs.jobs.Job.extends.Goals as goal

pub returns-then-self-other : goal.returns-then-self-other
returns-then-self-other c =
    let r = c.starts_with.result in
    let own = c.args.self.now.prefix in
    let other = c.args.other.now.prefix in
    let test = begins_by_test c.as_slice.result.now c.as_slice-numbers.result.now r
    (starts_is Decides-eqb c.as_slice-numbers.result.now c.as_slice.result.now r c.starts_with.ensures.value) in
    let at_other : IsTrue r ↔ Begins other c.as_slice-numbers.result.now = subst (λ xs. IsTrue r ↔ Begins xs c.as_slice-numbers.result.now) c.as_slice.ensures test in
    let at_both : IsTrue r ↔ Begins other own = subst (λ ys. IsTrue r ↔ Begins other ys) c.as_slice-numbers.ensures at_other in
    ((λ yes. (c.if-self-other.true, at_both.0 yes)), (λ begins. at_both.1 begins.1))
