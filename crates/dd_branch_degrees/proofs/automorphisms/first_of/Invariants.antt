use Rattle.std.proofs.Common.{◌≡◌, length}
use Rattle.dd_branch_degrees.proofs.automorphisms.first_of.Given as goal

abbrev pub invariant-loop-k : goal.invariant-loop-k
invariant-loop-k l = record {
  count : length l.list.items ≡ l.k;
}
