use Rattle.std.proofs.Common.{◌≡◌, ℕ, ◌+◌, ◌≤◌, List, drop}
use Rattle.std.specs.Ordering.{nat_cmp}
use Rattle.std.specs.Cmp.Lexicographic.{slice_cmp}
use Rattle.dd_model.specs.Symbol.{Symbol}
use Rattle.dd_canon.specs.Traversal.{IsExtension}
use Rattle.dd_canon.specs.Standing.{degree_list}
use Rattle.dd_canon.proofs.visits.NumberedChambers.degrees.Given as goal

abbrev pub invariant-loop-k : goal.invariant-loop-k
invariant-loop-k g l = record {
  order : (t : Symbol) (f : List ℕ) → IsExtension l.s l.self.order.items t f
      → slice_cmp nat_cmp (drop l.k (degree_list t l.pair)) (drop l.k (degree_list l.form l.pair)) ≡ slice_cmp nat_cmp (degree_list t l.pair) (degree_list l.form l.pair);
  count : g.T.Comparer.count l.steps ≤ g.T.Comparer.count l.initial.steps + l.k;
}
