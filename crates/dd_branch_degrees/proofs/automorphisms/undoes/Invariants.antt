use Rattle.std.proofs.Common.{◌≡◌, ℕ, ◌≤◌, length}
use Rattle.dd_model.specs.Symbol.{item}
use Rattle.dd_branch_degrees.proofs.automorphisms.undoes.Given as goal

abbrev pub invariant-loop-k : goal.invariant-loop-k
invariant-loop-k l = record {
  within : (d : ℕ) → 1 ≤ d → d ≤ l.k → (1 ≤ item l.list d) × (item l.list d ≤ length l.list);
  undone : (d : ℕ) → 1 ≤ d → d ≤ l.k → item l.back (item l.list d) ≡ d;
}
