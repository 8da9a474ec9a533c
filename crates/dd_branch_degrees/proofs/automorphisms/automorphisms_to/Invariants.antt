use Rattle.std.proofs.Common.{◌≡◌, ℕ, ◌<◌, length, get_or}
use Rattle.dd_branch_degrees.specs.Automorphism.{IsAutomorphism}
use Rattle.dd_branch_degrees.specs.declared.automorphisms.Automorphism.{Automorphism}
use Rattle.dd_branch_degrees.proofs.automorphisms.automorphisms_to.Given as goal

abbrev pub invariant-loop-k : goal.invariant-loop-k
invariant-loop-k l = record {
  count : length l.automorphisms.items ≡ l.k;
  each : (j : ℕ) (x : Automorphism) → j < l.k → IsAutomorphism l.s (get_or l.starts j 0) (get_or l.automorphisms.items j x).chambers.items;
}
