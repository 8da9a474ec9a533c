use Rattle.dd_check.proofs.SetReads.{still_next}
use Rattle.dd_check.proofs.sets.are_items.Goals as goal

pub loop-item-preserved : goal.loop-item-preserved
loop-item-preserved c =
    still_next c.args.items.now c.loop-item.item-index _ c.loop-item.next c.low_of.result c.high_of-next.result c.loop-item-test.true
    (c.is_item.ensures.0 c.if-not-is_item.false) c.low_of.ensures c.if-low_of-next.false c.high_of-next.ensures c.loop-item.invariant
