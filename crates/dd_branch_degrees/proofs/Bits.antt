-- Bits of numbers that are shifted and joined.
use Rattle.std.proofs.Common.{◌≡◌, ℕ, suc, ◌+◌, ◌-◌, ◌*◌, ◌/◌, ◌^◌, ◌%◌, ◌<◌, ◌≤◌, sym, ap, ◌∙◌, ⊎_elim, arith}
use Rattle.std.proofs.lemmas.Bool.{cases_lt}
use Rattle.std.proofs.lemmas.Nat.{one_shl, pow_pos, shr-shr}
use Rattle.std.proofs.Math.Nat.{div-mul-le_self, pow-suc}
use Rattle.std.proofs.lemmas.Nat.Bits.{bit_at-lt, bit_at-zero, bit_at_above, bit_at_and, bit_at_cat_high, bit_at_cat_low, bit_at_or}
use Rattle.std.specs.Int.{bit_at}
use Rattle.std.specs.Int.Bits.{bit_and, bit_or}

-- a bit of what is shifted down
pub bit_lower : (n s i : ℕ) → bit_at (n / 2 ^ s) i ≡ bit_at n (i + s)
bit_lower n s i = let same : s + i ≡ i + s = omega arith in ap (λ m. m % 2) (shr-shr n s i ∙ ap (λ k. n / 2 ^ k) same)

-- ## The bits from one on

from_one : (n s : ℕ) → n < 2 ^ 64 → n / 2 ^ s * 2 ^ s % 2 ^ 64 ≡ n / 2 ^ s * 2 ^ s + 0
from_one n s small = let low = div-mul-le_self n (2 ^ s) in omega (arith, low, small)

pub none_before : (n s i : ℕ) → n < 2 ^ 64 → i < s → bit_at (n / 2 ^ s * 2 ^ s % 2 ^ 64) i ≡ 0
none_before n s i small low = ap (λ m. bit_at m i) (from_one n s small) ∙ bit_at_cat_low (n / 2 ^ s) s 0 i low ∙ bit_at-zero i

pub same_from : (n s i : ℕ) → n < 2 ^ 64 → s ≤ i → bit_at (n / 2 ^ s * 2 ^ s % 2 ^ 64) i ≡ bit_at n i
same_from n s i small high =
    let back : i - s + s ≡ i = omega (arith, high) in
    ap (λ m. bit_at m i) (from_one n s small) ∙ bit_at_cat_high (n / 2 ^ s) s 0 i (pow_pos s) high ∙ bit_lower n s (i - s) ∙ ap (bit_at n) back

-- ## The highest bit

rest_below : (n k : ℕ) → 2 ^ k ≤ n → n < 2 * 2 ^ k → (1 * 2 ^ k + (n - 2 ^ k) ≡ n) × (n - 2 ^ k < 2 ^ k)
rest_below n k low high = (omega (arith, low), omega (arith, low, high))

pub highest_set : (n k : ℕ) → 2 ^ k ≤ n → n < 2 * 2 ^ k → bit_at n k ≡ 1
highest_set n k low high =
    let rest = rest_below n k low high in
    let none : k - k ≡ 0 = omega arith in
    ap (λ m. bit_at m k) (sym rest.0) ∙ bit_at_cat_high 1 k (n - 2 ^ k) k rest.1 (omega arith) ∙ ap (bit_at 1) none

pub none_higher : (n k i : ℕ) → n < 2 * 2 ^ k → k < i → bit_at n i ≡ 0
none_higher n k i high above = let twice : 2 ^ suc k ≡ 2 ^ k * 2 = pow-suc 2 k in bit_at_above n (suc k) i (omega (arith, twice, high)) (omega (arith, above))

-- the number without it
pub without_highest : (n k i : ℕ) → 2 ^ k ≤ n → n < 2 * 2 ^ k → i < k → bit_at (n - 2 ^ k) i ≡ bit_at n i
without_highest n k i low high below =
    let rest = rest_below n k low high in
    sym (bit_at_cat_low 1 k (n - 2 ^ k) i below) ∙ ap (λ m. bit_at m i) rest.0

pub none_from_highest : (n k i : ℕ) → 2 ^ k ≤ n → n < 2 * 2 ^ k → k ≤ i → bit_at (n - 2 ^ k) i ≡ 0
none_from_highest n k i low high above = bit_at_above (n - 2 ^ k) k i (rest_below n k low high).1 above

-- what is left without it was there before
pub bit_left : (n k e : ℕ) → 2 ^ k ≤ n → n < 2 * 2 ^ k → k < 64 → bit_at (n - 1 * 2 ^ k % 2 ^ 64) e ≡ 1 → bit_at n e ≡ 1
bit_left n k e low high within told =
    let bit : bit_at (n - 2 ^ k) e ≡ 1 = ap (λ y. bit_at (n - y) e) (sym (one_shl k 64 within)) ∙ told in
    let below : e < k = ⊎_elim (λ less. less) (λ up. absurd (let none = none_from_highest n k e low high up in omega (arith, none, bit))) (cases_lt e k) in
    sym (without_highest n k e low high below) ∙ bit

-- ## Joined bits

pub bit_of_both : (a b i : ℕ) → bit_at (bit_and a b) i ≡ 1 → (bit_at a i ≡ 1) × (bit_at b i ≡ 1)
bit_of_both a b i told =
    let both = bit_at_and a b i in
    let one = bit_at-lt a i in
    let other = bit_at-lt b i in
    (omega (arith, told, both, one, other), omega (arith, told, both, one, other))

pub bit_in_both : (a b i : ℕ) → bit_at a i ≡ 1 → bit_at b i ≡ 1 → bit_at (bit_and a b) i ≡ 1
bit_in_both a b i one other = let both = bit_at_and a b i in omega (arith, both, one, other)

pub bit_or_left : (a b i : ℕ) → bit_at a i ≡ 1 → bit_at (bit_or a b) i ≡ 1
bit_or_left a b i told = let other = bit_at-lt b i in bit_at_or a b i ∙ omega (arith, told, other)

pub bit_or_right : (a b i : ℕ) → bit_at b i ≡ 1 → bit_at (bit_or a b) i ≡ 1
bit_or_right a b i told = let other = bit_at-lt a i in bit_at_or a b i ∙ omega (arith, told, other)
