use Rattle.std.proofs.Common.{heap_items, sym, ◌∙◌, arith}
use Rattle.dd_model.specs.declared.index.Index.TheVariants.{Zero}
use Rattle.dd_covers.specs.declared.side.Side.{Side}
use Rattle.dd_covers.proofs.JoinLemmas.{unequal, equal}
use Rattle.dd_covers.proofs.WaitLemmas.{popped_low, side_before, side_listed, popped, popped_even, popped_next, all_even}
use Rattle.dd_covers.proofs.growth.next_join.Goals as goal

abbrev none : Side
none = record { chamber = 0; index = Zero; from = 0; to = 0 }

pub overflow_sub-side : goal.overflow_sub-side
overflow_sub-side c =
    let low = popped_low c.args.sides.now c.args.reached.now (heap_items c.loop-after.waiting) (heap_items c.pop.new.self) c.in-Some.after c.loop-after.invariant c.in-Some.ensures.permutation in
    omega arith

pub overflow_sub-side-in-Some : goal.overflow_sub-side-in-Some
overflow_sub-side-in-Some c =
    let low = popped_low c.args.sides.now c.args.reached.now (heap_items c.loop-after.waiting) (heap_items c.pop.new.self) c.in-Some.after c.loop-after.invariant c.in-Some.ensures.permutation in
    omega arith

pub bounds-sides-sides : goal.bounds-sides-sides
bounds-sides-sides c =
    let low = popped_low c.args.sides.now c.args.reached.now (heap_items c.loop-after.waiting) (heap_items c.pop.new.self) c.in-Some.after c.loop-after.invariant c.in-Some.ensures.permutation in
    omega arith

pub bounds-reached-side : goal.bounds-reached-side
bounds-reached-side c =
    let low = popped_low c.args.sides.now c.args.reached.now (heap_items c.loop-after.waiting) (heap_items c.pop.new.self) c.in-Some.after c.loop-after.invariant c.in-Some.ensures.permutation in
    (c.requires.ends _ (side_listed c.args.sides.now c.in-Some.after none low)).1

pub bounds-reached-side-in-Some : goal.bounds-reached-side-in-Some
bounds-reached-side-in-Some c =
    let low = popped_low c.args.sides.now c.args.reached.now (heap_items c.loop-after.waiting) (heap_items c.pop.new.self) c.in-Some.after c.loop-after.invariant c.in-Some.ensures.permutation in
    (c.requires.ends _ (side_listed c.args.sides.now c.in-Some.after none low)).0

pub returns-then-reached-side-clause-next : goal.returns-then-reached-side-clause-next
returns-then-reached-side-clause-next c =
    let low = popped_low c.args.sides.now c.args.reached.now (heap_items c.loop-after.waiting) (heap_items c.pop.new.self) c.in-Some.after c.loop-after.invariant c.in-Some.ensures.permutation in
    popped_next c.args.sides.now c.args.reached.now (heap_items c.loop-after.waiting) c.in-Some.after _ (side_before c.args.sides.now c.in-Some.after none low) c.requires.ascending c.loop-after.invariant
    (c.in-Some.ensures.heap_order c.loop-after.invariant.order).1 (unequal _ _ c.if-reached-side.true)

pub returns-then-reached-side-clause-waiting : goal.returns-then-reached-side-clause-waiting
returns-then-reached-side-clause-waiting c =
    let low = popped_low c.args.sides.now c.args.reached.now (heap_items c.loop-after.waiting) (heap_items c.pop.new.self) c.in-Some.after c.loop-after.invariant c.in-Some.ensures.permutation in
    popped c.args.sides.now c.args.reached.now (heap_items c.loop-after.waiting) (heap_items c.pop.new.self) c.in-Some.after _ (side_before c.args.sides.now c.in-Some.after none low) c.loop-after.invariant c.in-Some.ensures.permutation (c.in-Some.ensures.heap_order c.loop-after.invariant.order).0

pub loop-after-preserved : goal.loop-after-preserved
loop-after-preserved c =
    let low = popped_low c.args.sides.now c.args.reached.now (heap_items c.loop-after.waiting) (heap_items c.pop.new.self) c.in-Some.after c.loop-after.invariant c.in-Some.ensures.permutation in
    let now = popped c.args.sides.now c.args.reached.now (heap_items c.loop-after.waiting) (heap_items c.pop.new.self) c.in-Some.after _ (side_before c.args.sides.now c.in-Some.after none low) c.loop-after.invariant c.in-Some.ensures.permutation (c.in-Some.ensures.heap_order c.loop-after.invariant.order).0 in
    popped_even c.args.sides.now c.args.reached.now (heap_items c.pop.new.self) _ now (equal _ _ c.if-reached-side.false)

pub returns-clause-next : goal.returns-clause-next
returns-clause-next c = all_even c.args.sides.now c.args.reached.now (heap_items c.loop-after.waiting) (sym c.loop-after.waiting.data.ok.0 ∙ c.in_default.ensures.none) c.loop-after.invariant
