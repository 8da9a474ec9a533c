use Rattle.std.proofs.Common.{◌≡◌, ℕ, ◌+◌}
use Rattle.std.specs.Int.{bit_at}
use Rattle.dd_branch_degrees.proofs.later_budgets.surplus_with.Given as goal

abbrev pub invariant-loop-shares : goal.invariant-loop-shares
invariant-loop-shares l = record {
  told : (share e f : ℕ) → bit_at l.place.shares share ≡ 1 → bit_at l.shares share ≡ 0 → bit_at l.later e ≡ 1 → f + share ≡ e → bit_at l.all f ≡ 1;
}

abbrev pub decreases-loop-shares : goal.decreases-loop-shares
decreases-loop-shares l = l.shares
