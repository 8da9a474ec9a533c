use Rattle.dd_branch_tables.proofs.LeastStems.{AreNotSmallerTo}
use Rattle.dd_branch_tables.proofs.whole_stems.is_least.Given as goal

abbrev pub invariant-loop-k : goal.invariant-loop-k
invariant-loop-k l = AreNotSmallerTo l.stem l.k
