use Rattle.std.proofs.Common.{◌≡◌, ◌+◌}
use Rattle.dd_model.specs.Symbol.{item}
use Rattle.dd_canon.specs.Standing.{IsReady, IsNumbering}
use Rattle.dd_canon.proofs.visits.NumberedChambers.number_from.Given as goal

abbrev pub invariant-loop-k : goal.invariant-loop-k
invariant-loop-k l = record {
  ready : IsReady l.from l.self;
  numbering : IsNumbering l.from (l.k + 1) l.self.order.items l.self.number.items;
  start : item l.self.order.items 1 ≡ l.start;
}
