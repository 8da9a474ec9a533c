-- Fractions in lowest terms, and which of them are too wide.
use Rattle.std.specs.Prelude.{◌≡◌, ◌⊎◌, ◌^◌, ◌<◌, ◌≤◌, ◌*ℤ◌, nat_abs, Option, MatchOption}
use Rattle.dd_cells.specs.Fraction.{IsReduced}
use Rattle.dd_cells.specs.declared.fractions.Fraction.{Fraction}
use Rattle.dd_draw.specs.Elimination.{Ratio}
use Rattle.dd_draw.specs.Placement.{Point}

-- the fraction is the ratio in lowest terms
pub record IsLowest (x : Fraction) (r : Ratio) : Type 0 where
  pub reduced : IsReduced x
  pub value : x.num *ℤ r.under ≡ r.over *ℤ x.den

-- the numerator or the denominator is over 2^62 in size
abbrev pub IsOverLimit : Fraction → Type 0
IsOverLimit x = (2 ^ 62 < nat_abs x.num) ⊎ (2 ^ 62 < nat_abs x.den)

-- in lowest terms the ratio is over the limit
pub record IsWide (r : Ratio) : Type 0 where
  pub lowest : Fraction
  pub is_lowest : IsLowest lowest r
  pub over_limit : IsOverLimit lowest

-- a reduced fraction of which numerator and denominator are within the limit
pub record IsWithin (x : Fraction) : Type 0 where
  pub reduced : IsReduced x
  pub num : nat_abs x.num ≤ 2 ^ 62
  pub den : nat_abs x.den ≤ 2 ^ 62

-- the fraction is the ratio in lowest terms, and within the limit
pub record IsNarrow (x : Fraction) (r : Ratio) : Type 0 where
  pub within : IsWithin x
  pub value : x.num *ℤ r.under ≡ r.over *ℤ x.den

-- a fraction as a ratio
abbrev pub ratio_of : Fraction → Ratio
ratio_of x = record { over = x.num; under = x.den }

-- none is found where the ratio is over the limit, and else it in lowest terms
abbrev pub IsFound : Ratio → Option Fraction → Type 0
IsFound r found = MatchOption found (IsWide r) (λ x. IsNarrow x r × ¬ IsWide r)

-- both coordinates are reduced and within the limit
pub record IsNarrowPoint (p : Point) : Type 0 where
  pub x : IsWithin p.x
  pub y : IsWithin p.y
