use Rattle.std.specs.BinaryHeap.{heap_items, heap_len}
use Rattle.dd_covers.specs.Waiting.{AreWaiting, IsNoSide}
use Rattle.dd_covers.proofs.growth.next_join.Given as goal

abbrev pub invariant-loop-after : goal.invariant-loop-after
invariant-loop-after l = AreWaiting l.sides l.reached (heap_items l.waiting) IsNoSide

abbrev pub decreases-loop-after : goal.decreases-loop-after
decreases-loop-after l = heap_len l.waiting
