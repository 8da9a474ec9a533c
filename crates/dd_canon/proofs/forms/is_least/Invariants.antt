use Rattle.std.proofs.Common.{◌≡◌}
use Rattle.dd_canon.specs.Best.{IsBestNumbering}
use Rattle.dd_canon.proofs.forms.is_least.Given as goal

abbrev pub invariant-loop-k : goal.invariant-loop-k
invariant-loop-k l = record {
  best : IsBestNumbering l.s l.k l.best;
  same : l.best.form ≡ l.s;
}
