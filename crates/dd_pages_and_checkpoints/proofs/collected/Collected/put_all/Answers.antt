use Rattle.std.proofs.Common.{refl, ap, ◌∙◌, length, arith}
use Rattle.std.specs.Vec.Iter.{into_iter_items}
use Rattle.std.proofs.lemmas.List.{nil_from_length}
use Rattle.std.proofs.lemmas.List.Concat.{flat_map-cons}
use Rattle.dd_pages_and_checkpoints.specs.Texts.{bytes_of, joined}
use Rattle.dd_pages_and_checkpoints.proofs.Sending.{sending_start, sending_more, sending_part, sending_stopped, sending_room, sending_end}
use Rattle.dd_pages_and_checkpoints.proofs.collected.Collected.put_all.Goals as goal

pub loop-text-init : goal.loop-text-init
loop-text-init g c =
    let gives = c.into_iter-text-iterator.ensures.into_iter_gives in (
      gives.1 ∙ omega (arith, ap length gives.0),
      sending_start _ _ _ _ (ap joined gives.0),
      omega arith,
      λ s. (s, refl),
    )

pub invariant_of-self : goal.invariant_of-self
invariant_of-self g c =
    let next = ap joined c.in-Some.ensures.steps.0 ∙ flat_map-cons bytes_of c.in-Some.text (into_iter_items c.next.new.self) in
    record { few = sending_room _ _ _ _ _ _ _ _ c.put_behind.new.collected.items c.put_behind.result next c.put_behind.ensures.text c.put_behind.ensures.same c.requires c.loop-text.invariant.1 }

pub returns-in_default-clause-part : goal.returns-in_default-clause-part
returns-in_default-clause-part g c = sending_stopped _ _ _ _ _ _ _ c.in_default.ensures.same refl c.loop-text.invariant.1

pub loop-text-preserved : goal.loop-text-preserved
loop-text-preserved g c =
    let steps = c.in-Some.ensures.steps in
    let next = ap joined steps.0 ∙ flat_map-cons bytes_of c.in-Some.text (into_iter_items c.next.new.self) in
    let ih = c.loop-text.invariant in (
      omega (arith, ih.0, ap length steps.0, steps.1),
      sending_more _ _ _ _ _ _ _ _ _ _ _ next c.in-Ok.ensures.text c.in_ok-write_if_full.ensures.sent ih.1,
      omega (arith, c.write_if_full.ensures.cause.later, ih.2),
      λ s. let sure = ih.3 s in let next = c.write_if_full.ensures.sure sure.0 in (next.sure, next.count ∙ sure.1),
    )

pub returns-in_err-write_if_full-clause-part : goal.returns-in_err-write_if_full-clause-part
returns-in_err-write_if_full-clause-part g c =
    let next = ap joined c.in-Some.ensures.steps.0 ∙ flat_map-cons bytes_of c.in-Some.text (into_iter_items c.next.new.self) in
    sending_part _ _ _ _ _ _ _ _ _ _ _ next c.in-Ok.ensures.text c.write_if_full.ensures.part c.loop-text.invariant.1

pub returns-clause-sent : goal.returns-clause-sent
returns-clause-sent g c =
    let none = nil_from_length (into_iter_items c.loop-text.text-iterator) (omega (arith, c.loop-text.invariant.0, c.in-None.ensures.steps.0)) in
    sending_end _ _ _ _ _ _ (ap joined none) c.loop-text.invariant.1

pub returns-clause-part : goal.returns-clause-part
returns-clause-part g c = sending_stopped _ _ _ _ _ _ _ refl refl c.loop-text.invariant.1
