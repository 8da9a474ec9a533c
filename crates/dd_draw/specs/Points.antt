-- The points of the last table.
use Rattle.std.specs.Prelude.{◌≡◌, ℕ, suc, ◌+◌, ◌-◌, ◌<◌, List, length, slice_index_or}
use Rattle.dd_cells.specs.declared.fractions.Fraction.{Fraction}
use Rattle.dd_draw.specs.Placement.{Point, origin}
use Rattle.dd_draw.specs.Rows.{number_at}
use Rattle.dd_draw.specs.Tables.{row_at}

-- The first points: the origin, and of n rows the numbers in the two columns of shifts.
pub record ArePointsTo (vertices n : ℕ) (rows : List (List Fraction)) (points : List Point) : Type 0 where
  pub many : length points ≡ n + 1
  pub start : slice_index_or points 0 origin ≡ origin
  pub x : (i : ℕ) → i < n → (slice_index_or points (suc i) origin).x ≡ number_at (row_at rows i) (vertices - 1)
  pub y : (i : ℕ) → i < n → (slice_index_or points (suc i) origin).y ≡ number_at (row_at rows i) vertices
