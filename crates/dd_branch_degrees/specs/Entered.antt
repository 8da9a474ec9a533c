-- How a search for the degrees of a table goes on.
use Rattle.std.specs.Prelude.{◌≡◌, ◌↔◌, ℕ, ◌+◌, ◌*◌, ◌/◌, ◌<◌, ◌≤◌, [], ◌∷◌, ◌++◌, slice_index}
use Rattle.std.specs.Int.{bit_at}
use Rattle.dd_front_jobs.specs.Under.{next_number}
use Rattle.dd_model.specs.Symbol.{Symbol}
use Rattle.dd_branch_degrees.specs.Assignment.{Assigned, IsMemberUnder, next_place, prefix_of, shortened, spent_by, told}
use Rattle.dd_branch_degrees.specs.Budget.{twelfths}

-- the degrees that are left have to take so much of the budget beyond their least
abbrev pub HasBudget : Assigned → ℕ → Type 0
HasBudget a left = spent_by a + left + slice_index a.budgets.least (told a) ≡ 6 * a.table.size

-- What the next degree may have of the budget beyond its least, as bits, where so much is left: no more than that, and a share of
-- its place. That of each member is one of them.
pub record AreFitting (a : Assigned) (left fitting : ℕ) : Type 0 where
  pub within : (e : ℕ) → bit_at fitting e ≡ 1 → (bit_at (next_place a).shares e ≡ 1) × (e ≤ left)
  pub all : (s : Symbol) → IsMemberUnder a (prefix_of a) s → (v e : ℕ) → next_number (prefix_of a) s ≡ v * (next_place a).turns → e + 2 * (next_place a).sides ≡ (next_place a).sides * (12 / v) → bit_at fitting e ≡ 1

-- The degrees that follow from those that are told were told too, and nothing else changed.
pub record HasForced (old new : Assigned) : Type 0 where
  pub back : shortened new (told old) ≡ old
  pub longer : told old ≤ told new
  pub under : (s : Symbol) → IsMemberUnder old (prefix_of old) s ↔ IsMemberUnder new (prefix_of new) s
  pub spent : spent_by new ≡ spent_by old
  pub most : slice_index new.budgets.most (told new) ≡ slice_index old.budgets.most (told old)
  pub least : slice_index new.budgets.least (told new) ≡ slice_index old.budgets.least (told old)

-- More degrees were told, and no member has others.
pub record HasTold (old new : Assigned) : Type 0 where
  pub back : shortened new (told old) ≡ old
  pub longer : told old ≤ told new
  pub under : (s : Symbol) → IsMemberUnder old (prefix_of old) s ↔ IsMemberUnder new (prefix_of new) s

-- A degree was told, with those that follow.
pub record HasEntered (old : Assigned) (degree : ℕ) (new : Assigned) : Type 0 where
  pub back : shortened new (told old) ≡ old
  pub longer : told old < told new
  pub under : (s : Symbol) → IsMemberUnder old (prefix_of old ++ degree ∷ []) s ↔ IsMemberUnder new (prefix_of new) s
  pub spent : spent_by new ≡ spent_by old + twelfths (next_place old) degree
  pub most : slice_index new.budgets.most (told new) ≡ slice_index old.budgets.most (told old + 1)
  pub least : slice_index new.budgets.least (told new) ≡ slice_index old.budgets.least (told old + 1)
