use Rattle.std.proofs.Common.{drop}
use Rattle.dd_check.proofs.SetReads.{StillAre}
use Rattle.dd_check.proofs.sets.are_items.Given as goal

abbrev pub invariant-loop-item : goal.invariant-loop-item
invariant-loop-item l = StillAre l.items (drop l.item-index l.items) l.next
