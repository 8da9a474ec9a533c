-- How large products and quotients of integers are.
use Rattle.std.proofs.Common.{◌≤◌, ◌*◌, ◌<ℤ◌, ◌*ℤ◌, ℕ, ℤ, pos, negsuc, nat_abs, div-le_self, arith}
use Rattle.std.specs.Int.{int_div_euclid}
use Rattle.std.proofs.lemmas.Int.{ints, unsigned_abs-mul}
use Rattle.std.proofs.Math.Nat.{mul-le-mul}

pub product_size : (x y : ℤ) (m n : ℕ) → nat_abs x ≤ m → nat_abs y ≤ n → nat_abs (x *ℤ y) ≤ m * n
product_size x y m n p q = omega (arith, unsigned_abs-mul x y, mul-le-mul p q)

pub quotient_size : (n d : ℤ) → pos 0 <ℤ d → nat_abs (int_div_euclid n d) ≤ nat_abs n
quotient_size (pos a) (pos b) some = div-le_self a b
quotient_size (negsuc a) (pos b) some = let e = div-le_self a b in omega arith
quotient_size n (negsuc b) some = absurd (omega (arith, ints))
