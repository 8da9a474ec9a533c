use Rattle.std.proofs.Common.{◌≡◌, ℕ, ◌+◌, ◌-◌, ◌*◌, ◌<◌, ◌≤◌, length, get_or}
use Rattle.std.specs.Int.{bit_at}
use Rattle.dd_branch_degrees.specs.LaterBudgets.{HasSurplusWith}
use Rattle.dd_branch_degrees.specs.declared.places.DegreeSlot.{DegreeSlot}
use Rattle.dd_branch_degrees.proofs.later_budgets.LaterBudgets.of.Given as goal

abbrev pub invariant-loop-place : goal.invariant-loop-place
invariant-loop-place l = record {
  most_numbers : length l.most ≡ 73;
  least_numbers : length l.least ≡ 73;
  surplus_numbers : length l.surplus ≡ 73;
  inside : l.place ≤ length l.places;
  no_most : get_or l.most (length l.places) 0 ≡ 0;
  no_least : get_or l.least (length l.places) 0 ≡ 0;
  no_surplus : bit_at (get_or l.surplus (length l.places) 0) 63 ≡ 1;
  most_small : get_or l.most l.place 0 ≤ (length l.places - l.place) * 24;
  least_small : get_or l.least l.place 0 ≤ (length l.places - l.place) * 24;
  each_most : (j : ℕ) (x : DegreeSlot) → l.place ≤ j → j < length l.places → get_or l.most j 0 ≡ get_or l.most (j + 1) 0 + (get_or l.places j x).most;
  each_least : (j : ℕ) (x : DegreeSlot) → l.place ≤ j → j < length l.places → get_or l.least j 0 ≡ get_or l.least (j + 1) 0 + 2 * (get_or l.places j x).sides;
  each_surplus : (j : ℕ) (x : DegreeSlot) → l.place ≤ j → j < length l.places → HasSurplusWith (get_or l.places j x) (get_or l.surplus (j + 1) 0) (get_or l.surplus j 0);
}

abbrev pub decreases-loop-place : goal.decreases-loop-place
decreases-loop-place l = l.place
