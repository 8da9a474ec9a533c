use Rattle.std.proofs.Common.{drop}
use Rattle.dd_check.proofs.SetReads.{IsSetSoFar}
use Rattle.dd_check.proofs.sets.set_of.Given as goal

abbrev pub invariant-loop-item : goal.invariant-loop-item
invariant-loop-item l = IsSetSoFar l.items (drop l.item-index l.items) l.set
