use Rattle.std.proofs.Common.{refl, arith}
use Rattle.dd_check.proofs.SetReads.{each_item, item_ends, set_next}
use Rattle.dd_check.proofs.sets.set_of.Goals as goal

pub loop-item-preserved : goal.loop-item-preserved
loop-item-preserved c =
    set_next c.args.items.now c.loop-item.item-index _ c.loop-item.set c.add_range.new.set c.low_of.result c.high_of.result c.loop-item-test.true
    c.low_of.ensures c.high_of.ensures c.add_range.ensures c.loop-item.invariant

pub overflow_cast-low_of : goal.overflow_cast-low_of
overflow_cast-low_of c =
    let ends = item_ends _ _ _ (each_item c.args.items.now c.loop-item.item-index _ c.loop-item-test.true c.requires.each) c.low_of.ensures refl in
    omega (arith, ends.1, ends.2)

pub overflow_cast-high_of : goal.overflow_cast-high_of
overflow_cast-high_of c =
    let ends = item_ends _ _ _ (each_item c.args.items.now c.loop-item.item-index _ c.loop-item-test.true c.requires.each) c.low_of.ensures c.high_of.ensures in
    omega (arith, ends.2)

pub add_range-requires : goal.add_range-requires
add_range-requires c = item_ends _ _ _ (each_item c.args.items.now c.loop-item.item-index _ c.loop-item-test.true c.requires.each) c.low_of.ensures c.high_of.ensures
