-- The curvature of a symbol.
use Rattle.std.specs.Prelude.{◌≡◌, ℕ, ◌*◌, ◌/◌, pos, ◌-ℤ◌, List}
use Rattle.std.specs.List.{Contains, sum_by}
use Rattle.dd_model.specs.Symbol.{Symbol, degree}
use Rattle.dd_model.specs.Flat.{all_degrees, reciprocals}
use Rattle.dd_model.specs.declared.pair.Pair.{Pair}
use Rattle.dd_cells.specs.Fraction.{Divides, IsReduced, IsQuotient}
use Rattle.dd_cells.specs.declared.fractions.Fraction.{Fraction}

-- the sum of 1/m01 + 1/m12 - 1/2 over all chambers, as a reduced fraction
pub record IsCurvature (s : Symbol) (x : Fraction) : Type 0 where
  pub reduced : IsReduced x
  pub value : IsQuotient x (pos (2 * reciprocals s) -ℤ pos (s.size * all_degrees s)) (2 * all_degrees s)

-- The sum of 1/m over these chambers, m being the degree of the pair, is sum/common. To say so in whole
-- numbers takes a number that all the degrees divide, and any such number will do.
pub record IsReciprocalSum (s : Symbol) (p : Pair) (ds : List ℕ) (common sum : ℕ) : Type 0 where
  pub value : (whole : ℕ) → ((d : ℕ) → Contains ds d → Divides (degree s p d) whole)
      → sum * whole ≡ common * sum_by (λ d. whole / degree s p d) ds
