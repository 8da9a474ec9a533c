use Rattle.std.proofs.Common.{◌≡◌, ℕ, ◌<◌, length, get_or}
use Rattle.dd_branch_bounds.specs.Classes.{IsClassWeight}
use Rattle.dd_branch_bounds.proofs.class_shares.ClassShares.of.Given as goal

abbrev pub invariant-loop-class : goal.invariant-loop-class
invariant-loop-class l = record {
  room : length l.weights ≡ 192;
  each : (c : ℕ) → c < l.class → IsClassWeight l.request l.pair l.size c (get_or l.weights c 0);
}
