-- The first rows of a code, one of three images for each chamber.
use Rattle.std.specs.Prelude.{◌≡◌, ℕ, ◌+◌, ◌-◌, ◌*◌, ◌≤◌, List, length, slice_index}
use Rattle.dd_model.specs.declared.index.Index.{Index}
use Rattle.dd_model.specs.declared.index.Index.TheVariants.{Zero, One, Two}

-- the list holds the images h of the chambers 1 to k, row by row
pub record HasRows (h : Index → ℕ → ℕ) (k : ℕ) (xs : List ℕ) : Type 0 where
  pub rows : length xs ≡ 3 * k
  pub zero : (e : ℕ) → 1 ≤ e → e ≤ k → slice_index xs (3 * (e - 1)) ≡ h Zero e
  pub one : (e : ℕ) → 1 ≤ e → e ≤ k → slice_index xs (3 * (e - 1) + 1) ≡ h One e
  pub two : (e : ℕ) → 1 ≤ e → e ≤ k → slice_index xs (3 * (e - 1) + 2) ≡ h Two e
