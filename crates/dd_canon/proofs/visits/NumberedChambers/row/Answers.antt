use Rattle.std.proofs.Common.{◌≡◌, suc, inr, ◌+◌, ◌-◌, ◌≤◌, ◌∷◌, length, get_or, sym, ap, ◌∙◌, subst, arith}
use Rattle.dd_model.specs.declared.index.Index.TheVariants.{Zero, One, Two}
use Rattle.dd_model.specs.Code.{images}
use Rattle.dd_model.specs.Symbol.{IsChamber, item, op}
use Rattle.dd_model.specs.FirstVisit.{rows}
use Rattle.dd_canon.proofs.Traversals.{next_row}
use Rattle.dd_canon.proofs.VisitLemmas.{fallen_here, image_met, step_on, start_kept, still_inside, row_done}
use Rattle.dd_canon.proofs.visits.NumberedChambers.row.Goals as goal

pub item-requires-clause-high : goal.item-requires-clause-high
item-requires-clause-high g c =
    let s = c.args.s.now in
    let k = c.args.k in
    rw c.deref.ensures.value
    (next_row s c.args.form.now c.args.self.now.order.items c.args.self.now.number.items k (λ u. rows u k (suc (s.size - k))) c.args.so_far
    c.requires.ready.symbol.symbol.table c.requires.ready.connected c.requires.traversal c.requires.high)

pub images-images-requires : goal.images-images-requires
images-images-requires g c =
    let s = c.args.s.now in
    let k = c.args.k in
    let order = c.args.self.now.order.items in
    let here : k ≤ length order =
    next_row s c.args.form.now order c.args.self.now.number.items k (λ u. rows u k (suc (s.size - k))) c.args.so_far
    c.requires.ready.symbol.symbol.table c.requires.ready.connected c.requires.traversal c.requires.high in
    let inside : IsChamber s (item order k) = c.requires.ready.visit.within k c.requires.low here in
    subst (IsChamber s) (sym (c.item.ensures ∙ ap (λ xs. item xs k) c.deref.ensures.value)) inside

pub step-zero-requires-clause-image : goal.step-zero-requires-clause-image
step-zero-requires-clause-image g c =
    let s = c.args.s.now in
    let k = c.args.k in
    let order = c.args.self.now.order.items in
    let here : k ≤ length order =
    next_row s c.args.form.now order c.args.self.now.number.items k (λ u. rows u k (suc (s.size - k))) c.args.so_far
    c.requires.ready.symbol.symbol.table c.requires.ready.connected c.requires.traversal c.requires.high in
    let inside : IsChamber s (item order k) = c.requires.ready.visit.within k c.requires.low here in
    let there = subst (IsChamber s) (sym (c.item.ensures ∙ ap (λ xs. item xs k) c.deref.ensures.value)) inside in
    let image : get_or c.images-images.result 0 0 ≡ op s Zero c.item.result =
    ap (λ xs. get_or xs 0 0) c.images-images.ensures in
    subst (IsChamber s) (sym image) ((c.requires.ready.symbol.symbol.table.involutions Zero).within c.item.result there)

pub step-one-requires-clause-image : goal.step-one-requires-clause-image
step-one-requires-clause-image g c =
    let s = c.args.s.now in
    let k = c.args.k in
    let order = c.args.self.now.order.items in
    let here : k ≤ length order =
    next_row s c.args.form.now order c.args.self.now.number.items k (λ u. rows u k (suc (s.size - k))) c.args.so_far
    c.requires.ready.symbol.symbol.table c.requires.ready.connected c.requires.traversal c.requires.high in
    let inside : IsChamber s (item order k) = c.requires.ready.visit.within k c.requires.low here in
    let there = subst (IsChamber s) (sym (c.item.ensures ∙ ap (λ xs. item xs k) c.deref.ensures.value)) inside in
    let image : get_or c.images-images.result 1 0 ≡ op s One c.item.result =
    ap (λ xs. get_or xs 1 0) c.images-images.ensures in
    subst (IsChamber s) (sym image) ((c.requires.ready.symbol.symbol.table.involutions One).within c.item.result there)

pub step-requires-clause-image : goal.step-requires-clause-image
step-requires-clause-image g c =
    let s = c.args.s.now in
    let k = c.args.k in
    let order = c.args.self.now.order.items in
    let here : k ≤ length order =
    next_row s c.args.form.now order c.args.self.now.number.items k (λ u. rows u k (suc (s.size - k))) c.args.so_far
    c.requires.ready.symbol.symbol.table c.requires.ready.connected c.requires.traversal c.requires.high in
    let inside : IsChamber s (item order k) = c.requires.ready.visit.within k c.requires.low here in
    let there = subst (IsChamber s) (sym (c.item.ensures ∙ ap (λ xs. item xs k) c.deref.ensures.value)) inside in
    let image : get_or c.images-images.result 2 0 ≡ op s Two c.item.result =
    ap (λ xs. get_or xs 2 0) c.images-images.ensures in
    subst (IsChamber s) (sym image) ((c.requires.ready.symbol.symbol.table.involutions Two).within c.item.result there)

pub returns-then-is_gt-clause-ongoing : goal.returns-then-is_gt-clause-ongoing
returns-then-is_gt-clause-ongoing g c =
    let s = c.args.s.now in
    let b = c.args.form.now in
    let k = c.args.k in
    let n = s.size - k in
    let order = c.args.self.now.order.items in
    let number = c.args.self.now.number.items in
    let inv = c.requires.ready.symbol.symbol.table.involutions in
    let here : k ≤ length order =
    next_row s b order number k (λ u. rows u k (suc n)) c.args.so_far c.requires.ready.symbol.symbol.table c.requires.ready.connected c.requires.traversal c.requires.high in
    let read : c.images-images.result ≡ images s c.item.result = c.images-images.ensures in
    let own = c.images-own.ensures in
    let order1 = c.step-zero.new.self.order.items in
    let number1 = c.step-zero.new.self.number.items in
    let o1 = c.step-zero.result in
    let zero = image_met s b Zero k c.item.result _ _ c.args.so_far order order1 number1 o1 (ap (λ xs. get_or xs 0 0) read) (c.item.ensures ∙ ap (λ xs. item xs k) c.deref.ensures.value) (ap (λ ys. get_or ys 0 0) own) c.step-zero.ensures.step in
    let t1 = step_on s b order number order1 number1 k Zero (λ u. op u One k ∷ op u Two k ∷ rows u (k + 1) n) c.args.so_far o1 inv c.requires.traversal c.requires.low here c.step-zero.ensures.ready.visit zero in
    let start1 = start_kept s b Zero k c.args.so_far o1 order order1 number1 c.requires.traversal.begun zero in
    fallen_here s b _ order1 number1 k (λ u. op u One k ∷ op u Two k ∷ rows u (k + 1) n) (k + 1) (λ u. rows u (k + 1) n) o1 t1 start1 (cc)

pub returns-then-is_gt-2-clause-ongoing : goal.returns-then-is_gt-2-clause-ongoing
returns-then-is_gt-2-clause-ongoing g c =
    let s = c.args.s.now in
    let b = c.args.form.now in
    let k = c.args.k in
    let n = s.size - k in
    let order = c.args.self.now.order.items in
    let number = c.args.self.now.number.items in
    let inv = c.requires.ready.symbol.symbol.table.involutions in
    let here : k ≤ length order =
    next_row s b order number k (λ u. rows u k (suc n)) c.args.so_far c.requires.ready.symbol.symbol.table c.requires.ready.connected c.requires.traversal c.requires.high in
    let read : c.images-images.result ≡ images s c.item.result = c.images-images.ensures in
    let own = c.images-own.ensures in
    let order1 = c.step-zero.new.self.order.items in
    let number1 = c.step-zero.new.self.number.items in
    let o1 = c.step-zero.result in
    let zero = image_met s b Zero k c.item.result _ _ c.args.so_far order order1 number1 o1 (ap (λ xs. get_or xs 0 0) read) (c.item.ensures ∙ ap (λ xs. item xs k) c.deref.ensures.value) (ap (λ ys. get_or ys 0 0) own) c.step-zero.ensures.step in
    let order2 = c.step-one.new.self.order.items in
    let number2 = c.step-one.new.self.number.items in
    let o2 = c.step-one.result in
    let kept1 : c.item.result ≡ item order1 k = (c.item.ensures ∙ ap (λ xs. item xs k) c.deref.ensures.value) ∙ sym (zero.meeting.kept k c.requires.low here) in
    let one = image_met s b One k c.item.result _ _ o1 order1 order2 number2 o2 (ap (λ xs. get_or xs 1 0) read) kept1 (ap (λ ys. get_or ys 1 0) own) c.step-one.ensures.step in
    let t1 = step_on s b order number order1 number1 k Zero (λ u. op u One k ∷ op u Two k ∷ rows u (k + 1) n) c.args.so_far o1 inv c.requires.traversal c.requires.low here c.step-zero.ensures.ready.visit zero in
    let start1 = start_kept s b Zero k c.args.so_far o1 order order1 number1 c.requires.traversal.begun zero in
    let here1 = still_inside s b Zero k c.args.so_far o1 order order1 number1 here zero in
    let t2 = step_on s b order1 number1 order2 number2 k One (λ u. op u Two k ∷ rows u (k + 1) n) o1 o2 inv t1 c.requires.low here1 c.step-one.ensures.ready.visit one in
    let start2 = start_kept s b One k o1 o2 order1 order2 number2 t1.begun one in
    fallen_here s b _ order2 number2 k (λ u. op u Two k ∷ rows u (k + 1) n) (k + 1) (λ u. rows u (k + 1) n) o2 t2 (start2 ∙ start1) (cc)

pub returns-clause-ongoing : goal.returns-clause-ongoing
returns-clause-ongoing g c =
    let s = c.args.s.now in
    let b = c.args.form.now in
    let k = c.args.k in
    let n = s.size - k in
    let order = c.args.self.now.order.items in
    let number = c.args.self.now.number.items in
    let inv = c.requires.ready.symbol.symbol.table.involutions in
    let here : k ≤ length order =
    next_row s b order number k (λ u. rows u k (suc n)) c.args.so_far c.requires.ready.symbol.symbol.table c.requires.ready.connected c.requires.traversal c.requires.high in
    let read : c.images-images.result ≡ images s c.item.result = c.images-images.ensures in
    let own = c.images-own.ensures in
    let order1 = c.step-zero.new.self.order.items in
    let number1 = c.step-zero.new.self.number.items in
    let o1 = c.step-zero.result in
    let zero = image_met s b Zero k c.item.result _ _ c.args.so_far order order1 number1 o1 (ap (λ xs. get_or xs 0 0) read) (c.item.ensures ∙ ap (λ xs. item xs k) c.deref.ensures.value) (ap (λ ys. get_or ys 0 0) own) c.step-zero.ensures.step in
    let order2 = c.step-one.new.self.order.items in
    let number2 = c.step-one.new.self.number.items in
    let o2 = c.step-one.result in
    let kept1 : c.item.result ≡ item order1 k = (c.item.ensures ∙ ap (λ xs. item xs k) c.deref.ensures.value) ∙ sym (zero.meeting.kept k c.requires.low here) in
    let one = image_met s b One k c.item.result _ _ o1 order1 order2 number2 o2 (ap (λ xs. get_or xs 1 0) read) kept1 (ap (λ ys. get_or ys 1 0) own) c.step-one.ensures.step in
    let order3 = c.step.new.self.order.items in
    let number3 = c.step.new.self.number.items in
    let low = c.requires.low in
    let begun = c.requires.traversal.begun in
    let here1 = still_inside s b Zero k c.args.so_far o1 order order1 number1 here zero in
    let kept2 : c.item.result ≡ item order2 k = kept1 ∙ sym (one.meeting.kept k low here1) in
    let two = image_met s b Two k c.item.result _ _ o2 order2 order3 number3 c.step.result (ap (λ xs. get_or xs 2 0) read) kept2 (ap (λ ys. get_or ys 2 0) own) c.step.ensures.step in
    let start1 = start_kept s b Zero k c.args.so_far o1 order order1 number1 begun zero in
    let start2 = start_kept s b One k o1 o2 order1 order2 number2 (omega arith) one in
    let here2 = still_inside s b One k o1 o2 order1 order2 number2 here1 one in
    let start3 = start_kept s b Two k o2 c.step.result order2 order3 number3 (omega arith) two in
    inr (
      row_done s b order number order1 number1 order2 number2 order3 number3 k c.args.so_far o1 o2 c.step.result
          inv c.requires.traversal low here
          c.step-zero.ensures.ready.visit zero c.step-one.ensures.ready.visit one c.step.ensures.ready.visit two,
      start3 ∙ start2 ∙ start1,
    )
