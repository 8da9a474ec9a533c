use Rattle.std.proofs.Common.{◌≡◌, ◌+◌, ◌<◌, List, length, sym, subst, arith}
use Rattle.dd_model.specs.declared.tokens.Numeral.{Numeral}
use Rattle.dd_text.specs.Texts.{told_of}
use Rattle.dd_text.specs.ToldImages.{IsFree}
use Rattle.dd_text.specs.ListFaults.{IsLongList, IsWrongImage}
use Rattle.dd_text.specs.Images.{IsNextUnknown}
use Rattle.dd_text.proofs.ImageReads.{IsReadTo, at_index, paired, nothing_read, long_list, wrong_image, read_more, short_list, whole_list}
use Rattle.dd_text.proofs.images.images.Goals as goal

pub loop-number-init : goal.loop-number-init
loop-number-init c = nothing_read c.args.size c.args.list.now.numbers.items c.in_ok-images.images.items (c.in_ok-images.ensures.items_if_clones_equal (λ y e. e))

pub returns-then-chamber-len-clause-why : goal.returns-then-chamber-len-clause-why
returns-then-chamber-len-clause-why c =
    let items = c.deref-number-items.ensures.value in
    let next = subst (λ z. IsNextUnknown z c.loop-number.known c.next_unknown-chamber.result) c.deref.ensures.value c.next_unknown-chamber.ensures in
    let index = subst (λ (z : List Numeral). c.loop-number.number-index < length z) items c.loop-number-test.true in
    subst (λ z. IsLongList c.args.size (told_of c.args.list.now) (at_index z c.loop-number.number-index).at) (sym items)
    (long_list c.args.size (told_of c.args.list.now) _ _ _ _ c.loop-number.invariant next (omega (arith, c.len.ensures)) index)

pub returns-then-not-is_free-clause-why : goal.returns-then-not-is_free-clause-why
returns-then-not-is_free-clause-why c =
    let items = c.deref-number-items.ensures.value in
    let next = subst (λ z. IsNextUnknown z c.loop-number.known c.next_unknown-chamber.result) c.deref.ensures.value c.next_unknown-chamber.ensures in
    let index = subst (λ (z : List Numeral). c.loop-number.number-index < length z) items c.loop-number-test.true in
    let taken = subst (λ z. IsFree z (at_index c.deref-number-items.result.now c.loop-number.number-index).value → ⊥) c.deref-in-loop-number.ensures.value (λ free. cc (c.is_free.ensures.1 free, c.if-not-is_free.true)) in
    subst (λ z. IsWrongImage c.args.size (told_of c.args.list.now) (at_index z c.loop-number.number-index).at) (sym items)
    (wrong_image c.args.size (told_of c.args.list.now) _ _ _ _ c.loop-number.invariant next (omega (arith, c.len.ensures)) index
    (subst (λ z. IsFree c.loop-number.images.items (at_index z c.loop-number.number-index).value → ⊥) items taken))

pub loop-number-preserved : goal.loop-number-preserved
loop-number-preserved c =
    let items = c.deref-number-items.ensures.value in
    let next = subst (λ z. IsNextUnknown z c.loop-number.known c.next_unknown-chamber.result) c.deref.ensures.value c.next_unknown-chamber.ensures in
    let index = subst (λ (z : List Numeral). c.loop-number.number-index < length z) items c.loop-number-test.true in
    let free = subst (λ z. IsFree z (at_index c.deref-number-items.result.now c.loop-number.number-index).value) c.deref-in-loop-number.ensures.value (c.is_free.ensures.0 c.if-not-is_free.false) in
    subst (λ z. IsReadTo c.args.size c.args.list.now.numbers.items (c.loop-number.number-index + 1) c.next_unknown-chamber.result (paired c.loop-number.images.items c.next_unknown-chamber.result (at_index z c.loop-number.number-index).value)) (sym items)
    (read_more c.args.size c.args.list.now.numbers.items _ _ _ _ c.loop-number.invariant next (omega (arith, c.len.ensures)) index
    (subst (λ z. IsFree c.loop-number.images.items (at_index z c.loop-number.number-index).value) items free))

pub returns-then-next_unknown-len-clause-why : goal.returns-then-next_unknown-len-clause-why
returns-then-next_unknown-len-clause-why c =
    let next = subst (λ z. IsNextUnknown z c.loop-number.known c.next_unknown.result) c.deref-2.ensures.value c.next_unknown.ensures in
    let z = c.loop-number-test.false in
    let done : length c.args.list.now.numbers.items ≡ c.loop-number.number-index = omega (arith, c.deref-number-items.ensures.len) in
    short_list c.args.size (told_of c.args.list.now) _ _ _ _ c.loop-number.invariant next (omega (arith, c.len-2.ensures)) done

pub returns-clause-ok : goal.returns-clause-ok
returns-clause-ok c =
    let next = subst (λ z. IsNextUnknown z c.loop-number.known c.next_unknown.result) c.deref-2.ensures.value c.next_unknown.ensures in
    let z = c.loop-number-test.false in
    let done : length c.args.list.now.numbers.items ≡ c.loop-number.number-index = omega (arith, c.deref-number-items.ensures.len) in
    whole_list c.args.size (told_of c.args.list.now) _ _ _ _ c.loop-number.invariant next (omega (arith, c.len-2.ensures)) done
