-- Numbers that are equal modulo k.
use Rattle.std.proofs.Common.{◌≡◌, ℕ, zero, suc, ◌+◌, ◌-◌, ◌*◌, ◌/◌, ◌%◌, ◌<◌, refl, sym, ap, ◌∙◌, arith}
use Rattle.std.proofs.Math.Nat.{add-mul-mod_self_right, mod-add-div'}

-- some multiples of k make the two equal
pub record AreCongruent (k a b : ℕ) : Type 0 where
  pub up : ℕ
  pub down : ℕ
  pub equal : a + up * k ≡ b + down * k

pub congruent_same : (k a b : ℕ) → a ≡ b → AreCongruent k a b
congruent_same k a b e = record { up = 0; down = 0; equal = omega arith }

pub congruent_on : (k a b c : ℕ) → AreCongruent k a b → AreCongruent k b c → AreCongruent k a c
congruent_on k a b c x y = let p = x.equal in let q = y.equal in record { up = x.up + y.up; down = x.down + y.down; equal = omega arith }

pub congruent_sum : (k a b c d : ℕ) → AreCongruent k a b → AreCongruent k c d → AreCongruent k (a + c) (b + d)
congruent_sum k a b c d x y = let p = x.equal in let q = y.equal in record { up = x.up + y.up; down = x.down + y.down; equal = omega arith }

pub congruent_times : (k a b q : ℕ) → AreCongruent k a b → AreCongruent k (q * a) (q * b)
congruent_times k a b q x = let p = ap (λ z. q * z) x.equal in record { up = q * x.up; down = q * x.down; equal = omega arith }

pub remainders : (k a b : ℕ) → AreCongruent k a b → a % k ≡ b % k
remainders k a b x = sym (add-mul-mod_self_right a x.up k) ∙ ap (λ z. z % k) x.equal ∙ add-mul-mod_self_right b x.down k

pub congruent : (k a b : ℕ) → a % k ≡ b % k → AreCongruent k a b
congruent k a b e =
    let p = mod-add-div' a k in
    let q = mod-add-div' b k in
    record { up = b / k; down = a / k; equal = omega arith }

pub no_remainder : (k a : ℕ) → a % k ≡ 0 → AreCongruent k a 0
no_remainder k a e = let p = mod-add-div' a k in record { up = 0; down = a / k; equal = omega arith }

zero_mod : (k : ℕ) → 0 % k ≡ 0
zero_mod zero = refl
zero_mod (suc k) = grind arith

pub remainder_none : (k a : ℕ) → AreCongruent k a 0 → a % k ≡ 0
remainder_none k a x = remainders k a 0 x ∙ zero_mod k

pub mod_congruent : (k a : ℕ) → AreCongruent k (a % k) a
mod_congruent k a = let p = mod-add-div' a k in record { up = a / k; down = 0; equal = omega arith }

-- a number and its opposite
pub both_ways : (k n : ℕ) → n < k → (n + (k - n) % k) % k ≡ 0
both_ways k n low =
    let c = mod_congruent k (k - n) in
    let e = c.equal in
    remainder_none k (n + (k - n) % k) (record { up = c.up; down = c.down + 1; equal = omega arith })
