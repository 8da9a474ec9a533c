use Rattle.std.proofs.Common.{◌+◌, ◌*◌, ◌≤◌}
use Rattle.dd_canon.specs.Best.{IsBestNumbering}
use Rattle.dd_canon.proofs.best_numbering.BestNumbering.improve_to_end.Given as goal

abbrev pub invariant-loop-k : goal.invariant-loop-k
invariant-loop-k g l = record {
  best : IsBestNumbering l.s l.k l.self;
  count : g.T.Comparer.count l.steps ≤ g.T.Comparer.count l.initial.steps + 5 * l.s.size * l.k;
}
