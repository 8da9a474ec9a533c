-- Products, quotients and small numbers.
use Rattle.std.proofs.Common.{◌≡◌, ℕ, zero, suc, ◌*◌, ◌/◌, ◌%◌, ◌≤◌, arith}

pub positive_product : (a b : ℕ) → 1 ≤ a → 1 ≤ b → 1 ≤ a * b
positive_product a b pa pb = grind arith

pub whole_quotient : (m r : ℕ) → 1 ≤ r → m % r ≡ 0 → m / r * r ≡ m
whole_quotient m r pos even = grind arith

-- the two factors of 2 are small
pub quotient_bound : (v r : ℕ) → 1 ≤ r → v * r ≡ 2 → v ≤ 30
quotient_bound v r pos e = grind arith

-- what holds at 1, 2 and 3 holds at each number from 1 to 3
pub by_three : (P : ℕ → Type 0) → P 1 → P 2 → P 3 → (d : ℕ) → 1 ≤ d → d ≤ 3 → P d
by_three P a b c zero low high = absurd (omega (arith, low))
by_three P a b c (suc zero) low high = a
by_three P a b c (suc (suc zero)) low high = b
by_three P a b c (suc (suc (suc zero))) low high = c
by_three P a b c (suc (suc (suc (suc d)))) low high = absurd (omega (arith, high))
