use Rattle.std.proofs.Common.{ℕ, ◌<◌, get_or}
use Rattle.dd_branch_degrees.specs.Automorphism.{IsBehind}
use Rattle.dd_branch_degrees.specs.declared.automorphisms.Automorphism.{Automorphism}
use Rattle.dd_branch_degrees.proofs.automorphisms.none_is_smaller.Given as goal

abbrev pub invariant-loop-k : goal.invariant-loop-k
invariant-loop-k l = record {
  none : (j : ℕ) (x : Automorphism) → j < l.k → IsBehind (get_or l.automorphisms j x).chambers.items l.m01 l.m12 → ⊥;
}
