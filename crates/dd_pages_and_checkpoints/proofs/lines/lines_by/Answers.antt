use Rattle.std.proofs.Common.{◌∷◌, ap, sym, ◌∙◌, subst, length, arith, rules}
use Rattle.std.specs.Vec.Iter.{into_iter_items}
use Rattle.std.proofs.lemmas.List.{nil_from_length}
use Rattle.dd_pages_and_checkpoints.proofs.LineParts.{AreMade, all_made_of, none_joined, one_joined, all_joined, few_joined}
use Rattle.dd_pages_and_checkpoints.proofs.lines.lines_by.Goals as goal

pub loop-lines-init : goal.loop-lines-init
loop-lines-init g c =
    let parts = c.in_ok-parts.parts.items in
    let gives = c.into_iter-lines-iterator.ensures.into_iter_gives in
    let made = all_made_of parts c.in_ok-made.made.items (search rules) (λ i d low. let given = (c.in_ok-made.ensures.each i d low).1 in record { part = given.job; is = given.job_is; lines = given.call.met }) in (
      gives.1 ∙ omega (arith, ap length gives.0),
      none_joined _ _ parts _ _ c.in_ok-parts.ensures (subst (AreMade parts) (sym gives.0) made) c.in_ok-texts.ensures.items,
    )

pub loop-lines-preserved : goal.loop-lines-preserved
loop-lines-preserved g c =
    let steps = c.in-Some.ensures.steps in
    let ih = c.loop-lines.invariant in (
      omega (arith, ih.0, ap length steps.0, steps.1),
      one_joined _ _ c.in_ok-lines.field-0 _ _ _ _ (steps.0 ∙ ap (λ r. r ∷ into_iter_items c.next.new.self) c.in_ok-lines.was) c.in_ok-push.ensures.items ih.1,
    )

pub returns-clause-few : goal.returns-clause-few
returns-clause-few g c =
    let ih = c.loop-lines.invariant in
    few_joined _ _ _ _ (nil_from_length _ (omega (arith, ih.0, c.in-None.ensures.steps.0))) ih.1

pub returns-clause-lines : goal.returns-clause-lines
returns-clause-lines g c =
    let ih = c.loop-lines.invariant in
    all_joined _ _ _ _ (nil_from_length _ (omega (arith, ih.0, c.in-None.ensures.steps.0))) ih.1
