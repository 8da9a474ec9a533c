-- Numbers in range, one after the other.
use Rattle.std.proofs.Common.{ℕ, ◌*◌, ◌<◌, ◌≤◌, List}
use Rattle.std.specs.Prelude.{slice_index}
use Rattle.dd_check.specs.Ranges.{IsFromTo}

-- the numbers below a place are in range
pub record HasGoodBelow (size : ℕ) (numbers : List ℕ) (place : ℕ) : Type 0 where
  pub images : (t : ℕ) → t < place → t < 3 * size → IsFromTo 1 size (slice_index numbers t)
  pub degrees : (t : ℕ) → t < place → 3 * size ≤ t → IsFromTo 1 216 (slice_index numbers t)
