use Rattle.std.proofs.Common.{◌≡◌, ◌-◌, ◌+◌, false, length, sym, ap, ◌∙◌, subst, arith}
use Rattle.std.proofs.lemmas.List.{get_or_read, length_push}
use Rattle.dd_model.specs.Symbol.{IsChamber, item, op}
use Rattle.dd_cells.specs.Orientation.{color}
use Rattle.dd_covers.proofs.VisitingLemmas.{seen_again, seen_first, room_left}
use Rattle.dd_covers.proofs.visits.Visits.step.Goals as goal

pub op-image-requires : goal.op-image-requires
op-image-requires c =
    let order = c.args.self.now.order.items in
    let read : c.item-chamber.result ≡ item order c.args.k = c.item-chamber.ensures ∙ ap (λ xs. item xs c.args.k) c.as_slice.ensures.value in
    subst (IsChamber c.args.symbol.now) (sym read) (c.requires.visiting.placed c.args.k c.requires.low c.requires.high).0

pub overflow_cast-len : goal.overflow_cast-len
overflow_cast-len c =
    let s = c.args.symbol.now in
    let order = c.args.self.now.order.items in
    let number = c.args.self.now.number.items in
    let v = c.requires.visiting in
    let sizes = v.numbers in
    let small = v.small.size in
    let read : c.item-chamber.result ≡ item order c.args.k = c.item-chamber.ensures ∙ ap (λ xs. item xs c.args.k) c.as_slice.ensures.value in
    let image : c.op-image.result ≡ op s c.args.i (item order c.args.k) = c.op-image.ensures.image ∙ ap (op s c.args.i) read in
    let h = c.op-image.ensures.chamber in
    let number_read = get_or_read number (c.op-image.result - 1) c.index.result.now (omega (arith, h.0, h.1)) c.index.ensures 0 in
    let none : item number (op s c.args.i (item order c.args.k)) ≡ 0 = sym (ap (item number) image) ∙ sym number_read ∙ c.if-index-eq0.true in
    let room = room_left s order number c.args.self.now.white.items c.args.i c.args.k v c.requires.low c.requires.high none in
    let longer : length c.push.new.self.items ≡ length order + 1 = ap length c.in_ok-push.ensures.items ∙ length_push order c.op-image.result in
    let e : c.len.result ≡ length order + 1 = omega arith in
    omega arith

pub index-requires-then-index-eq0 : goal.index-requires-then-index-eq0
index-requires-then-index-eq0 c =
    let order = c.args.self.now.order.items in
    let v = c.requires.visiting in
    let sizes = v.whites in
    let read : c.item-chamber.result ≡ item order c.args.k = c.item-chamber.ensures ∙ ap (λ xs. item xs c.args.k) c.as_slice.ensures.value in
    let h = (v.placed c.args.k c.requires.low c.requires.high).0 in
    omega (arith, h.0, h.1)

pub returns-in_ok-push-clause-visiting : goal.returns-in_ok-push-clause-visiting
returns-in_ok-push-clause-visiting c =
    let s = c.args.symbol.now in
    let order = c.args.self.now.order.items in
    let number = c.args.self.now.number.items in
    let white = c.args.self.now.white.items in
    let v = c.requires.visiting in
    let sizes = v.numbers in
    let whites = v.whites in
    let read : c.item-chamber.result ≡ item order c.args.k = c.item-chamber.ensures ∙ ap (λ xs. item xs c.args.k) c.as_slice.ensures.value in
    let image : c.op-image.result ≡ op s c.args.i (item order c.args.k) = c.op-image.ensures.image ∙ ap (op s c.args.i) read in
    let h = c.op-image.ensures.chamber in
    let g = (v.placed c.args.k c.requires.low c.requires.high).0 in
    let number_read = get_or_read number (c.op-image.result - 1) c.index.result.now (omega (arith, h.0, h.1)) c.index.ensures 0 in
    let none : item number (op s c.args.i (item order c.args.k)) ≡ 0 = sym (ap (item number) image) ∙ sym number_read ∙ c.if-index-eq0.true in
    let white_read : c.index-then-index-eq0.result.now ≡ color white (item order c.args.k) =
    get_or_read white (c.item-chamber.result - 1) c.index-then-index-eq0.result.now (omega (arith, g.0, g.1)) c.index-then-index-eq0.ensures false ∙ ap (color white) read in
    let longer : length c.push.new.self.items ≡ length order + 1 = ap length c.in_ok-push.ensures.items ∙ length_push order c.op-image.result in
    let e : c.len.result ≡ length order + 1 = omega arith in
    rw (c.in_ok-push.ensures.items, image, white_read) (seen_first s order number white c.args.i c.args.k v c.requires.low c.requires.high none c.len.result e)

pub returns-in_ok-push-clause-longer : goal.returns-in_ok-push-clause-longer
returns-in_ok-push-clause-longer c =
    let longer : length c.push.new.self.items ≡ length c.args.self.now.order.items + 1 = ap length c.in_ok-push.ensures.items ∙ length_push c.args.self.now.order.items c.op-image.result in
    omega arith

pub returns-else-index-eq0-clause-visiting : goal.returns-else-index-eq0-clause-visiting
returns-else-index-eq0-clause-visiting c =
    let s = c.args.symbol.now in
    let order = c.args.self.now.order.items in
    let number = c.args.self.now.number.items in
    let v = c.requires.visiting in
    let sizes = v.numbers in
    let read : c.item-chamber.result ≡ item order c.args.k = c.item-chamber.ensures ∙ ap (λ xs. item xs c.args.k) c.as_slice.ensures.value in
    let image : c.op-image.result ≡ op s c.args.i (item order c.args.k) = c.op-image.ensures.image ∙ ap (op s c.args.i) read in
    let h = c.op-image.ensures.chamber in
    let number_read = get_or_read number (c.op-image.result - 1) c.index.result.now (omega (arith, h.0, h.1)) c.index.ensures 0 in
    seen_again s order number c.args.self.now.white.items c.args.i c.args.k v c.requires.low c.requires.high
    (λ none. c.if-index-eq0.false (number_read ∙ ap (item number) image ∙ none))
