use Rattle.std.proofs.Common.{◌-◌, ◌<◌, length, slice_get, sym, ap, ◌∙◌, subst, arith}
use Rattle.std.proofs.lemmas.Bool.Decides.{Decides-eqb}
use Rattle.std.proofs.lemmas.Slice.Eq.{starts_is}
use Rattle.dd_model.specs.Lists.{Begins}
use Rattle.dd_model.proofs.SmallerPlaces.{begins_by_test}
use Rattle.dd_branch_tables.specs.Stem.{prefix_of, size_of}
use Rattle.dd_branch.specs.Descent.{Descending, GoesBack}
use Rattle.dd_branch.proofs.GoingBack.{fewer_levels, has_levels, same_request, same_size}
use Rattle.dd_branch.proofs.descent.Descent.go_back.Goals as goal

pub drop_level-requires : goal.drop_level-requires
drop_level-requires c =
    let both = starts_is Decides-eqb c.args.prefix.now c.prefix.result.now c.starts_with.result c.starts_with.ensures.value in
    has_levels c.loop-self.self c.args.prefix.now c.prefix.result.now c.starts_with.result (subst GoesBack c.self.view_is c.self.invariant)
    (c.prefix.ensures ∙ ap (λ (d : Descending). prefix_of d.stem) c.self.view_is) both.1 c.loop-self-test.true

pub loop-self-smaller : goal.loop-self-smaller
loop-self-smaller c =
    let old = c.loop-self.self in
    let both = starts_is Decides-eqb c.args.prefix.now c.prefix.result.now c.starts_with.result c.starts_with.ensures.value in
    let some = has_levels old c.args.prefix.now c.prefix.result.now c.starts_with.result (subst GoesBack c.self.view_is c.self.invariant)
    (c.prefix.ensures ∙ ap (λ (d : Descending). prefix_of d.stem) c.self.view_is) both.1 c.loop-self-test.true in
    let fewer = fewer_levels old some in
    subst (λ (d : Descending). length d.levels < length old.levels) (sym c.drop_level.ensures) (omega (arith, fewer))

pub loop-self-preserved : goal.loop-self-preserved
loop-self-preserved c =
    let old = c.loop-self.self in
    let last = slice_get old.levels (length old.levels - 1) in
    record {
      request = ap (λ (d : Descending). d.request) c.drop_level.ensures ∙ same_request last old ∙ c.loop-self.invariant.request;
      size = ap (λ (d : Descending). size_of d.stem) c.drop_level.ensures ∙ same_size last old ∙ c.loop-self.invariant.size;
    }

pub returns-clause-begins : goal.returns-clause-begins
returns-clause-begins c =
    let test = begins_by_test c.prefix.result.now c.args.prefix.now c.starts_with.result
    (starts_is Decides-eqb c.args.prefix.now c.prefix.result.now c.starts_with.result c.starts_with.ensures.value) in
    subst (λ xs. Begins xs c.args.prefix.now) (c.prefix.ensures ∙ ap (λ (d : Descending). prefix_of d.stem) c.self.view_is)
    (test.0 c.loop-self-test.false)
