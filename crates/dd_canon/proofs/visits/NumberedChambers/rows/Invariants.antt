use Rattle.std.proofs.Common.{◌≡◌, ◌+◌, ◌-◌, ◌*◌, ◌≤◌}
use Rattle.dd_model.specs.Symbol.{item}
use Rattle.dd_model.specs.FirstVisit.{rows}
use Rattle.dd_canon.specs.Traversal.{IsTraversal}
use Rattle.dd_canon.specs.Standing.{IsReady}
use Rattle.dd_canon.proofs.visits.NumberedChambers.rows.Given as goal

abbrev pub invariant-loop-k : goal.invariant-loop-k
invariant-loop-k g l = record {
  ready : IsReady l.s l.self;
  traversal : IsTraversal l.s l.form l.self.order.items l.self.number.items (l.k + 1) (λ u. rows u (l.k + 1) (l.s.size - l.k)) l.so_far;
  start : item l.self.order.items 1 ≡ item l.initial.self.order.items 1;
  count : g.T.Comparer.count l.steps ≤ g.T.Comparer.count l.initial.steps + 3 * l.k;
}
