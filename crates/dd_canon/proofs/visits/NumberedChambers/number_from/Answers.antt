use Rattle.std.proofs.Common.{◌≡◌, ◌+◌, get_or, sym, ap, ◌∙◌, subst, arith}
use Rattle.dd_model.specs.declared.index.Index.TheVariants.{Zero, One, Two}
use Rattle.dd_model.specs.Symbol.{IsChamber, item}
use Rattle.dd_canon.specs.Standing.{IsWhole}
use Rattle.dd_canon.proofs.NumberingLemmas.{numbering_begun, numbering_inside, numbering_chamber, numbering_more, numbering_whole, start_stays}
use Rattle.dd_canon.proofs.visits.NumberedChambers.number_from.Goals as goal

pub loop-k-init : goal.loop-k-init
loop-k-init c = record {
  ready = c.begin.ensures.ready;
  numbering = numbering_begun c.lend-from.result c.args.start c.begin.new.self.order.items c.begin.new.self.number.items c.begin.ensures.order c.begin.ensures.ready.visit;
  start = ap (λ xs. item xs 1) c.begin.ensures.order;
}

pub item-requires-clause-high : goal.item-requires-clause-high
item-requires-clause-high c =
    let v = c.loop-k.self in
    let ready = c.loop-k.invariant.ready in
    rw c.deref.ensures.value
    (numbering_inside c.lend-from.result (c.loop-k.k + 1) v.order.items v.number.items ready.symbol.symbol.table ready.connected c.loop-k.invariant.numbering (omega arith))

pub images-requires : goal.images-requires
images-requires c =
    let v = c.loop-k.self in
    let ready = c.loop-k.invariant.ready in
    numbering_chamber c.lend-from.result (c.loop-k.k + 1) c.item.result v.order.items v.number.items ready.symbol.symbol.table ready.connected ready.visit c.loop-k.invariant.numbering
    (omega arith) (omega arith) (c.item.ensures ∙ ap (λ xs. item xs (c.loop-k.k + 1)) c.deref.ensures.value)

pub meet-requires-clause-chamber : goal.meet-requires-clause-chamber
meet-requires-clause-chamber c =
    let s = c.lend-from.result in
    let v = c.loop-k.self in
    let ready = c.loop-k.invariant.ready in
    let inside = numbering_chamber s (c.loop-k.k + 1) c.item.result v.order.items v.number.items ready.symbol.symbol.table ready.connected ready.visit c.loop-k.invariant.numbering
    (omega arith) (omega arith) (c.item.ensures ∙ ap (λ xs. item xs (c.loop-k.k + 1)) c.deref.ensures.value) in
    subst (IsChamber s) (sym (ap (λ xs. get_or xs 0 0) c.images.ensures)) ((ready.symbol.symbol.table.involutions Zero).within c.item.result inside)

pub meet-requires-in-loop-k-clause-chamber : goal.meet-requires-in-loop-k-clause-chamber
meet-requires-in-loop-k-clause-chamber c =
    let s = c.lend-from.result in
    let v = c.loop-k.self in
    let ready = c.loop-k.invariant.ready in
    let inside = numbering_chamber s (c.loop-k.k + 1) c.item.result v.order.items v.number.items ready.symbol.symbol.table ready.connected ready.visit c.loop-k.invariant.numbering
    (omega arith) (omega arith) (c.item.ensures ∙ ap (λ xs. item xs (c.loop-k.k + 1)) c.deref.ensures.value) in
    subst (IsChamber s) (sym (ap (λ xs. get_or xs 1 0) c.images.ensures)) ((ready.symbol.symbol.table.involutions One).within c.item.result inside)

pub meet-requires-in-loop-k-2-clause-chamber : goal.meet-requires-in-loop-k-2-clause-chamber
meet-requires-in-loop-k-2-clause-chamber c =
    let s = c.lend-from.result in
    let v = c.loop-k.self in
    let ready = c.loop-k.invariant.ready in
    let inside = numbering_chamber s (c.loop-k.k + 1) c.item.result v.order.items v.number.items ready.symbol.symbol.table ready.connected ready.visit c.loop-k.invariant.numbering
    (omega arith) (omega arith) (c.item.ensures ∙ ap (λ xs. item xs (c.loop-k.k + 1)) c.deref.ensures.value) in
    subst (IsChamber s) (sym (ap (λ xs. get_or xs 2 0) c.images.ensures)) ((ready.symbol.symbol.table.involutions Two).within c.item.result inside)

pub loop-k-preserved : goal.loop-k-preserved
loop-k-preserved c =
    let s = c.lend-from.result in
    let k = c.loop-k.k + 1 in
    let old = c.loop-k.self in
    let ready = c.loop-k.invariant.ready in
    let inv = ready.symbol.symbol.table.involutions in
    let numbering = c.loop-k.invariant.numbering in
    let here = numbering_inside s k old.order.items old.number.items ready.symbol.symbol.table ready.connected numbering (omega arith) in
    let zero = ap (λ xs. get_or xs 0 0) c.images.ensures in
    let one = ap (λ xs. get_or xs 1 0) c.images.ensures in
    let two = ap (λ xs. get_or xs 2 0) c.images.ensures in
    record {
      ready = c.meet-in-loop-k-2.ensures.ready;
      numbering = numbering_more s inv k c.item.result (get_or c.images.result 0 0) (get_or c.images.result 1 0) (get_or c.images.result 2 0) c.meet.result c.meet-in-loop-k.result c.meet-in-loop-k-2.result
          zero one two
          old.order.items old.number.items c.meet.new.self.order.items c.meet.new.self.number.items c.meet-in-loop-k.new.self.order.items c.meet-in-loop-k.new.self.number.items c.meet-in-loop-k-2.new.self.order.items c.meet-in-loop-k-2.new.self.number.items
          (omega arith) (omega arith) here numbering (c.item.ensures ∙ ap (λ xs. item xs k) c.deref.ensures.value)
          c.meet.ensures.ready.visit c.meet.ensures.meeting c.meet-in-loop-k.ensures.ready.visit c.meet-in-loop-k.ensures.meeting c.meet-in-loop-k-2.ensures.ready.visit c.meet-in-loop-k-2.ensures.meeting;
      start = start_stays s inv k c.item.result (get_or c.images.result 0 0) (get_or c.images.result 1 0) (get_or c.images.result 2 0) c.meet.result c.meet-in-loop-k.result c.meet-in-loop-k-2.result
          zero one two
          old.order.items old.number.items c.meet.new.self.order.items c.meet.new.self.number.items c.meet-in-loop-k.new.self.order.items c.meet-in-loop-k.new.self.number.items c.meet-in-loop-k-2.new.self.order.items c.meet-in-loop-k-2.new.self.number.items
          (omega arith) (omega arith) here numbering (c.item.ensures ∙ ap (λ xs. item xs k) c.deref.ensures.value)
          c.meet.ensures.ready.visit c.meet.ensures.meeting c.meet-in-loop-k.ensures.ready.visit c.meet-in-loop-k.ensures.meeting c.meet-in-loop-k-2.ensures.ready.visit c.meet-in-loop-k-2.ensures.meeting
          ∙ c.loop-k.invariant.start;
    }

pub returns-clause-whole : goal.returns-clause-whole
returns-clause-whole c =
    let s = c.lend-from.result in
    let ready = c.loop-k.invariant.ready in
    let end = c.loop-k-test.false in
    let last : c.loop-k.k ≡ s.size = omega arith in
    subst (λ x. IsWhole x c.args.start c.loop-k.self.order.items c.loop-k.self.number.items) c.lend-from.ensures.same
    (numbering_whole s c.args.start c.loop-k.k c.loop-k.self.order.items c.loop-k.self.number.items ready.symbol.symbol.table ready.connected last c.loop-k.invariant.numbering c.loop-k.invariant.start)
