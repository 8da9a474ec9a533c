-- A visit to some of 36 chambers.
use Rattle.std.specs.Prelude.{◌≡◌, ℕ, ◌+◌, ◌≤◌, List, length}
use Rattle.std.specs.List.{sum_by}
use Rattle.dd_model.specs.Symbol.{item}
use Rattle.dd_canon.specs.Traversal.{unnumbered}

-- Some of 36 chambers in the order of their numbers, and the number of each, which is 0 where it has none.
pub record AreNumbered (order number : List ℕ) : Type 0 where
  pub numbers : length number ≡ 36
  pub within : (k : ℕ) → 1 ≤ k → k ≤ length order → (1 ≤ item order k) × (item order k ≤ 36)
  pub numbered : (k : ℕ) → 1 ≤ k → k ≤ length order → item number (item order k) ≡ k
  pub ordered : (d : ℕ) → 1 ≤ d → d ≤ 36 → 1 ≤ item number d → (item number d ≤ length order) × (item order (item number d) ≡ d)
  pub room : sum_by unnumbered number + length order ≡ 36
