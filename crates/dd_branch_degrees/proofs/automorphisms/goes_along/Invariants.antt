use Rattle.std.proofs.Common.{◌≡◌, ℕ, ◌≤◌}
use Rattle.dd_model.specs.Symbol.{item, op}
use Rattle.dd_model.specs.declared.index.Index.{Index}
use Rattle.dd_branch_degrees.proofs.automorphisms.goes_along.Given as goal

abbrev pub invariant-loop-k : goal.invariant-loop-k
invariant-loop-k l = record {
  along : (i : Index) (d : ℕ) → 1 ≤ d → d ≤ l.k → item l.list (op l.s i d) ≡ op l.s i (item l.list d);
}
