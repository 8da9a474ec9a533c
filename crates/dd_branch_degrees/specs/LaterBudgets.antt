-- Sums over the places from each one on.
use Rattle.std.specs.Prelude.{◌≡◌, ℕ, ◌+◌, ◌*◌, ◌<◌, ◌≤◌, List, length, slice_index, slice_index_or}
use Rattle.std.specs.Int.{bit_at}
use Rattle.dd_branch_degrees.specs.declared.places.DegreeSlot.{DegreeSlot}
use Rattle.dd_branch_degrees.specs.declared.later_budgets.LaterBudgets.{LaterBudgets}

-- With each share of a place, what later degrees may have beyond their least is something that all of these may have beyond
-- theirs. Both are told by bits, that of e at 63 - e, and 64 and more is not told.
abbrev pub HasSurplusWith : DegreeSlot → ℕ → ℕ → Type 0
HasSurplusWith x later all = (share e f : ℕ) → (x.sides ≡ 0 → share ≡ 0) → (1 ≤ x.sides → bit_at x.shares share ≡ 1) → bit_at later e ≡ 1 → f + share ≡ e → bit_at all f ≡ 1

-- As far as it is told, the places from one on may have so much beyond their least.
pub record HasLaterBudget (budgets : LaterBudgets) (place rest : ℕ) : Type 0 where
  pub most : rest + slice_index budgets.least place ≤ slice_index budgets.most place
  pub told : (f : ℕ) → f + rest ≡ 63 → bit_at (slice_index budgets.surplus place) f ≡ 1

-- There is nothing from the end on, and each place adds its shares.
pub record AreLaterBudgets (places : List DegreeSlot) (budgets : LaterBudgets) : Type 0 where
  pub most_numbers : length budgets.most ≡ 73
  pub least_numbers : length budgets.least ≡ 73
  pub surplus_numbers : length budgets.surplus ≡ 73
  pub no_most : slice_index budgets.most (length places) ≡ 0
  pub no_least : slice_index budgets.least (length places) ≡ 0
  pub no_surplus : bit_at (slice_index budgets.surplus (length places)) 63 ≡ 1
  pub each_most : (j : ℕ) (x : DegreeSlot) → j < length places → slice_index budgets.most j ≡ slice_index budgets.most (j + 1) + (slice_index_or places j x).most
  pub each_least : (j : ℕ) (x : DegreeSlot) → j < length places → slice_index budgets.least j ≡ slice_index budgets.least (j + 1) + 2 * (slice_index_or places j x).sides
  pub each_surplus : (j : ℕ) (x : DegreeSlot) → j < length places → HasSurplusWith (slice_index_or places j x) (slice_index budgets.surplus (j + 1)) (slice_index budgets.surplus j)
