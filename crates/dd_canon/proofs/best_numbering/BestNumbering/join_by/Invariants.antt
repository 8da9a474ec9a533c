use Rattle.dd_canon.specs.Best.{IsBestNumbering}
use Rattle.dd_canon.proofs.best_numbering.BestNumbering.join_by.Given as goal

abbrev pub invariant-loop-k : goal.invariant-loop-k
invariant-loop-k l = IsBestNumbering l.s 1 l.self
