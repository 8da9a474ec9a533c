use Rattle.std.proofs.Common.{◌≡◌, ◌+◌, ◌*◌, ◌<◌, ◌++◌, true, false, [], get_or, set, replicate, Ok, heap_items, ap, ◌∙◌, subst, arith}
use Rattle.std.proofs.lemmas.Iterator.{YieldsList-from_slice}
use Rattle.std.proofs.lemmas.Iterator.Adapters.{fact_from_extend}
use Rattle.std.proofs.lemmas.List.Concat.{flat_map_single}
use Rattle.std.proofs.lemmas.List.Sums.{sum_by-set}
use Rattle.std.specs.List.{Contains, sum_by}
use Rattle.std.specs.List.Sorted.{IsPermutation}
use Rattle.dd_model.specs.Symbol.{Symbol}
use Rattle.dd_symbol.specs.Walk.{unseen}
use Rattle.dd_covers.specs.Joins.{flag, IsNext, IsEven}
use Rattle.dd_covers.specs.Waiting.{AreWaiting, IsNoSide, places}
use Rattle.dd_covers.specs.declared.side.Side.{Side}
use Rattle.dd_covers.proofs.JoinLemmas.{ends_low, ends_within, new_within, grown_more, grown_whole, grown_first}
use Rattle.dd_covers.proofs.WaitLemmas.{items_at, waiting_more, end_of_join, none_waits}
use Rattle.dd_covers.proofs.growth.joins.Goals as goal

pub sides_at_cells-requires : goal.sides_at_cells-requires
sides_at_cells-requires c x here =
    let size = c.size.ensures.size ∙ ap (λ (t : Symbol). t.size) c.symbol.ensures.same in
    let low = ends_low c.args.s.now c.symbol.ensures.symbol.symbol.table c.symbol.ensures.connected c.args.numbers.now c.requires.numbers.order c.args.sides.now c.requires.sides [] x here in
    (omega (arith, low.0), omega (arith, low.1))

pub loop-join-init : goal.loop-join-init
loop-join-init c =
    let cells = 3 * (c.size.result + 1) in
    let size : c.size.result ≡ c.args.s.now.size = c.size.ensures.size ∙ ap (λ (t : Symbol). t.size) c.symbol.ensures.same in
    let flags = c.in_ok-reached.ensures.items_if_clones_equal (λ y e. e) in
    let many = c.in_ok-at.ensures.many in
    let none = none_waits c.args.sides.now cells (heap_items c.new-waiting.result) (λ x here.
    let low = ends_low c.args.s.now c.symbol.ensures.symbol.symbol.table c.symbol.ensures.connected c.args.numbers.now c.requires.numbers.order c.args.sides.now c.requires.sides [] x here in
    (omega (arith, low.0), omega (arith, low.1))) c.new-waiting.ensures.items c.new-waiting.ensures.heap_order in
    let at_1 = c.as_slice.ensures.value ∙ items_at c.in_ok-at.at.items 1 c.index.result.now _ (omega arith) c.index.ensures in
    record {
      grown = rw (flags, c.new-joins.ensures.items) (grown_first c.args.s.now c.args.numbers.now cells (ap (λ n. 3 * (n + 1)) size));
      waiting = fact_from_extend {E = Unit {0}} (λ y. y.now) (Ok c.in_ok-extend.field-0) c.in_ok-extend.ensures.ran (λ it b. YieldsList-from_slice _ b.0) (λ xs e h.
          rw flags
          (waiting_more c.args.sides.now (replicate cells false) 1 (heap_items c.new-waiting.result) (heap_items c.extend.new.self) (places c.in_ok-at.at.items) IsNoSide (λ y no_side. absurd no_side)
          none c.in_ok-at.ensures.sides (subst (λ l. IsPermutation (heap_items c.new-waiting.result ++ l) (heap_items c.extend.new.self)) (flat_map_single (λ y. y.now) xs ∙ e ∙ at_1) h.1) h.2));
    }

pub next_join-requires-clause-ends : goal.next_join-requires-clause-ends
next_join-requires-clause-ends c =
    rw c.as_slice-in-loop-join.ensures.value
    (ends_within c.args.s.now c.symbol.ensures.symbol.symbol.table c.symbol.ensures.connected c.args.numbers.now c.requires.numbers.order c.args.sides.now c.requires.sides
    c.loop-join.reached.items c.loop-join.joins.items c.loop-join.invariant.grown)

pub next_join-requires-clause-waiting : goal.next_join-requires-clause-waiting
next_join-requires-clause-waiting c = rw c.as_slice-in-loop-join.ensures.value c.loop-join.invariant.waiting

pub index_mut-requires-in-Some : goal.index_mut-requires-in-Some
index_mut-requires-in-Some c =
    let next = subst (λ xs. IsNext c.args.sides.now xs c.in-Some.join) c.as_slice-in-loop-join.ensures.value c.in-Some.ensures.next in
    let inside = new_within c.args.s.now c.symbol.ensures.symbol.symbol.table c.symbol.ensures.connected c.args.numbers.now c.requires.numbers.order c.args.sides.now c.requires.sides
    c.loop-join.reached.items c.loop-join.joins.items c.loop-join.invariant.grown c.in-Some.join next in
    let e = c.new_end-cell.ensures in
    let long = c.loop-join.reached.ok.0 in
    omega arith

pub index-requires-in-Some : goal.index-requires-in-Some
index-requires-in-Some c =
    let size : c.size.result ≡ c.args.s.now.size = c.size.ensures.size ∙ ap (λ (t : Symbol). t.size) c.symbol.ensures.same in
    let next = subst (λ xs. IsNext c.args.sides.now xs c.in-Some.join) c.as_slice-in-loop-join.ensures.value c.in-Some.ensures.next in
    let inside = new_within c.args.s.now c.symbol.ensures.symbol.symbol.table c.symbol.ensures.connected c.args.numbers.now c.requires.numbers.order c.args.sides.now c.requires.sides
    c.loop-join.reached.items c.loop-join.joins.items c.loop-join.invariant.grown c.in-Some.join next in
    let e = c.new_end-cell.ensures in
    let flags = c.loop-join.invariant.grown.flags in
    let many = c.in_ok-at.ensures.many in
    let long = c.in_ok-at.at.ok.0 in
    omega arith

pub loop-join-smaller : goal.loop-join-smaller
loop-join-smaller c =
    let reached = c.loop-join.reached.items in
    let next = subst (λ xs. IsNext c.args.sides.now xs c.in-Some.join) c.as_slice-in-loop-join.ensures.value c.in-Some.ensures.next in
    let inside = new_within c.args.s.now c.symbol.ensures.symbol.symbol.table c.symbol.ensures.connected c.args.numbers.now c.requires.numbers.order c.args.sides.now c.requires.sides
    c.loop-join.reached.items c.loop-join.joins.items c.loop-join.invariant.grown c.in-Some.join next in
    let at = c.new_end-cell.ensures in
    let sums = sum_by-set unseen reached c.new_end-cell.result true false (omega arith) in
    let was : unseen (get_or reached c.new_end-cell.result false) ≡ 1 = ap (λ n. unseen (flag reached n)) at ∙ ap unseen next.new in
    let less : sum_by unseen (set reached c.new_end-cell.result true) < sum_by unseen reached = omega arith in
    less

pub loop-join-preserved : goal.loop-join-preserved
loop-join-preserved c =
    let reached = c.loop-join.reached.items in
    let cell = c.new_end-cell.result in
    let old = heap_items c.next_join.new.waiting in
    let new = heap_items c.extend-in-Some.new.self in
    let next = subst (λ xs. IsNext c.args.sides.now xs c.in-Some.join) c.as_slice-in-loop-join.ensures.value c.in-Some.ensures.next in
    let waits = subst (λ xs. AreWaiting c.args.sides.now xs old (λ y. y ≡ c.in-Some.join.side)) c.as_slice-in-loop-join.ensures.value c.in-Some.ensures.waiting in
    let size : c.size.result ≡ c.args.s.now.size = c.size.ensures.size ∙ ap (λ (t : Symbol). t.size) c.symbol.ensures.same in
    let inside = new_within c.args.s.now c.symbol.ensures.symbol.symbol.table c.symbol.ensures.connected c.args.numbers.now c.requires.numbers.order c.args.sides.now c.requires.sides
    c.loop-join.reached.items c.loop-join.joins.items c.loop-join.invariant.grown c.in-Some.join next in
    let is = c.new_end-cell.ensures in
    let flags = c.loop-join.invariant.grown.flags in
    let many = c.in_ok-at.ensures.many in
    let at = c.as_slice-in-Some.ensures.value ∙ items_at c.in_ok-at.at.items cell c.index-in-Some.result.now _ (omega arith) c.index-in-Some.ensures in
    record {
      grown = rw (is, c.in_ok-push.ensures.items)
          (grown_more c.args.s.now c.symbol.ensures.symbol.symbol.table c.symbol.ensures.connected c.args.numbers.now c.requires.numbers.order c.args.sides.now c.requires.sides
          c.loop-join.reached.items c.loop-join.joins.items c.loop-join.invariant.grown c.in-Some.join next);
      waiting = fact_from_extend {E = Unit {0}} (λ y. y.now) (Ok c.in_ok-extend-2.field-0) c.in_ok-extend-2.ensures.ran (λ it b. YieldsList-from_slice _ b.0) (λ xs e h.
          waiting_more c.args.sides.now reached cell old new (places c.in_ok-at.at.items) (λ y. y ≡ c.in-Some.join.side) (end_of_join c.in-Some.join cell is)
          waits c.in_ok-at.ensures.sides (subst (λ l. IsPermutation (old ++ l) new) (flat_map_single (λ y. y.now) xs ∙ e ∙ at) h.1) h.2);
    }

pub returns : goal.returns
returns c =
    let even : (x : Side) → Contains c.args.sides.now x → IsEven c.loop-join.reached.items x =
    λ x here. subst (λ xs. IsEven xs x) c.as_slice-in-loop-join.ensures.value (c.in_default.ensures.next x here) in
    grown_whole c.args.s.now c.symbol.ensures.symbol.symbol.table c.symbol.ensures.connected c.args.numbers.now c.requires.numbers.order c.args.sides.now c.requires.sides
    c.loop-join.reached.items c.loop-join.joins.items c.loop-join.invariant.grown even
