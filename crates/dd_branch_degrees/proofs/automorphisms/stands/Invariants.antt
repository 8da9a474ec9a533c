use Rattle.std.proofs.Common.{◌≡◌, drop}
use Rattle.std.specs.Ordering.{nat_cmp}
use Rattle.std.specs.Cmp.Lexicographic.{slice_cmp}
use Rattle.dd_branch_degrees.specs.Automorphism.{along_list}
use Rattle.dd_branch_degrees.proofs.automorphisms.stands.Given as goal

abbrev pub invariant-loop-k : goal.invariant-loop-k
invariant-loop-k l = record {
  so_far : slice_cmp nat_cmp l.own (along_list l.list l.own) ≡ slice_cmp nat_cmp (drop l.k l.own) (drop l.k (along_list l.list l.own));
}
