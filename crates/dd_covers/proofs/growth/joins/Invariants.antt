use Rattle.std.specs.BinaryHeap.{heap_items}
use Rattle.std.specs.List.{sum_by}
use Rattle.dd_symbol.specs.Walk.{unseen}
use Rattle.dd_covers.specs.Joins.{AreGrown}
use Rattle.dd_covers.specs.Waiting.{AreWaiting, IsNoSide}
use Rattle.dd_covers.proofs.growth.joins.Given as goal

abbrev pub invariant-loop-join : goal.invariant-loop-join
invariant-loop-join l = record {
  grown : AreGrown l.fn.s l.numbers l.reached.items l.joins.items;
  waiting : AreWaiting l.sides l.reached.items (heap_items l.waiting) IsNoSide;
}

abbrev pub decreases-loop-join : goal.decreases-loop-join
decreases-loop-join l = sum_by unseen l.reached.items
