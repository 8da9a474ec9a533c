-- Identities of whole numbers: an expression is a difference of two naturals that are computed from its parts, and equations of
-- naturals are proved by multiplying out.
use Rattle.std.proofs.Common.{◌≡◌, ℕ, ◌+◌, ◌*◌, ℤ, pos, ◌+ℤ◌, ◌-ℤ◌, ◌*ℤ◌, ap, arith}
use Rattle.std.proofs.lemmas.Int.{ints}
use borrow.Author.Differences.{up, down}

infixl 60 ◌⊞◌
infixl 60 ◌⊟◌
infixl 70 ◌⊠◌
-- z is plus less minus
pub record Parts (z : ℤ) : Type 0 where
  pub plus : ℕ
  pub minus : ℕ
  pub is : up z + minus ≡ down z + plus

abbrev pub at : (z : ℤ) → Parts z
at z = record { plus = up z; minus = down z; is = omega arith }

abbrev pub nat : (n : ℕ) → Parts (pos n)
nat n = record { plus = n; minus = 0; is = omega arith }

pub sum_is : (a b : ℤ) (u d v e : ℕ) → up a + d ≡ down a + u → up b + e ≡ down b + v → up (a +ℤ b) + (d + e) ≡ down (a +ℤ b) + (u + v)
sum_is a b u d v e p q = omega (arith, ints)

pub difference_is : (a b : ℤ) (u d v e : ℕ) → up a + d ≡ down a + u → up b + e ≡ down b + v → up (a -ℤ b) + (d + v) ≡ down (a -ℤ b) + (u + e)
difference_is a b u d v e p q = omega (arith, ints)

pub product_is : (a b : ℤ) (u d v e : ℕ) → up a + d ≡ down a + u → up b + e ≡ down b + v
    → up (a *ℤ b) + (u * e + d * v) ≡ down (a *ℤ b) + (u * v + d * e)
product_is a b u d v e p q =
    let plain : up (a *ℤ b) + (up a * down b + down a * up b) ≡ down (a *ℤ b) + (up a * up b + down a * down b) = omega (arith, ints) in
    let one = ap (λ n. n * up b) p in
    let two = ap (λ n. n * down b) p in
    let three = ap (λ n. u * n) q in
    let four = ap (λ n. d * n) q in
    omega arith

abbrev pub ◌⊞◌ : {a b : ℤ} → Parts a → Parts b → Parts (a +ℤ b)
◌⊞◌ {a} {b} x y = record { plus = x.plus + y.plus; minus = x.minus + y.minus; is = sum_is a b x.plus x.minus y.plus y.minus x.is y.is }

abbrev pub ◌⊟◌ : {a b : ℤ} → Parts a → Parts b → Parts (a -ℤ b)
◌⊟◌ {a} {b} x y = record { plus = x.plus + y.minus; minus = x.minus + y.plus; is = difference_is a b x.plus x.minus y.plus y.minus x.is y.is }

abbrev pub ◌⊠◌ : {a b : ℤ} → Parts a → Parts b → Parts (a *ℤ b)
◌⊠◌ {a} {b} x y = record {
  plus = x.plus * y.plus + x.minus * y.minus;
  minus = x.plus * y.minus + x.minus * y.plus;
  is = product_is a b x.plus x.minus y.plus y.minus x.is y.is;
}

pub equal : {a b : ℤ} (x : Parts a) (y : Parts b) → x.plus + y.minus ≡ y.plus + x.minus → a ≡ b
equal {a} {b} x y e = let p = x.is in let q = y.is in omega (arith, ints)
