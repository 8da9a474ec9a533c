-- Fractions of whole numbers.
use Rattle.std.specs.Prelude.{◌≡◌, ℕ, ◌*◌, ℤ, pos, ◌*ℤ◌, ◌<ℤ◌, nat_abs}
use Rattle.dd_cells.specs.declared.fractions.Fraction.{Fraction}

-- n is d times some number
pub record Divides (d n : ℕ) : Type 0 where
  pub quotient : ℕ
  pub product : quotient * d ≡ n

-- The denominator is positive, and no number but 1 divides it and the numerator.
pub record IsReduced (x : Fraction) : Type 0 where
  pub positive : pos 0 <ℤ x.den
  pub coprime : (d : ℕ) → Divides d (nat_abs x.num) → Divides d (nat_abs x.den) → d ≡ 1

-- the fraction is n over d
pub record IsQuotient (x : Fraction) (n : ℤ) (d : ℕ) : Type 0 where
  pub product : x.num *ℤ pos d ≡ n *ℤ x.den
