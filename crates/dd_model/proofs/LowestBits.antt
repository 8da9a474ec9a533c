-- The lowest bit of a number, the number without it, and the bits from 1 up to another.
use Rattle.std.proofs.Common.{◌≡◌, ◌≢◌, ℕ, zero, suc, ◌+◌, ◌-◌, ◌*◌, ◌/◌, ◌%◌, ◌^◌, ◌<◌, ◌≤◌, w64, sym, ap, ◌∙◌, ⊎_elim, arith}
use Rattle.std.proofs.lemmas.Bool.{cases_lt}
use Rattle.std.proofs.lemmas.Nat.{pow_pos}
use Rattle.std.proofs.Math.Nat.{pow-suc}
use Rattle.std.proofs.Math.Pow.{pow_mono}
use Rattle.std.proofs.lemmas.Nat.Bits.{bit_at_and, bit_at_lowest, bit_at-lt, bit_at_mask_above, bit_at_mask_inside, bit_at-suc, bit_at-trailing_zeros}
use Rattle.std.specs.Int.{bit_at, trailing_zeros}
use Rattle.std.specs.Int.Bits.{bit_and}

-- t is the place of the lowest bit that is set
pub record IsLowestBit (n t : ℕ) : Type 0 where
  pub set_ : bit_at n t ≡ 1
  pub none_below : (i : ℕ) → i < t → bit_at n i ≡ 0

pub lowest_bit : (n : ℕ) → 0 < n → n < 2 ^ 64 → IsLowestBit n (trailing_zeros w64 n)
lowest_bit n some small = let told = bit_at-trailing_zeros w64 n some small in record { set_ = told.1; none_below = told.2 }

half_less : (n : ℕ) → n % 2 ≡ 0 → (n - 1) / 2 ≡ n / 2 - 1
half_less n even = omega arith

half_lowest : (n t : ℕ) → IsLowestBit n (suc t) → IsLowestBit (n / 2) t
half_lowest n t is = record {
  set_ = sym (bit_at-suc n t) ∙ is.set_;
  none_below = λ i low. sym (bit_at-suc n i) ∙ is.none_below (suc i) (omega arith);
}

even_above : (n t : ℕ) → IsLowestBit n (suc t) → n % 2 ≡ 0
even_above n t is = sym (bit_at_lowest n) ∙ is.none_below 0 (omega arith)

-- One less has no bit where the lowest one was,
less_same : (n t : ℕ) → IsLowestBit n t → bit_at (n - 1) t ≡ 0
less_same n zero is = let odd = sym (bit_at_lowest n) ∙ is.set_ in bit_at_lowest (n - 1) ∙ omega arith
less_same n (suc t) is = bit_at-suc (n - 1) t ∙ ap (λ m. bit_at m t) (half_less n (even_above n t is)) ∙ less_same (n / 2) t (half_lowest n t is)

-- and the same bits above it.
less_above : (n t i : ℕ) → IsLowestBit n t → t < i → bit_at (n - 1) i ≡ bit_at n i
less_above n t zero is above = absurd (omega arith)
less_above n zero (suc i) is above =
    let odd = sym (bit_at_lowest n) ∙ is.set_ in
    let half : (n - 1) / 2 ≡ n / 2 = omega arith in
    bit_at-suc (n - 1) i ∙ ap (λ m. bit_at m i) half ∙ sym (bit_at-suc n i)
less_above n (suc t) (suc i) is above =
    bit_at-suc (n - 1) i ∙ ap (λ m. bit_at m i) (half_less n (even_above n t is)) ∙ less_above (n / 2) t i (half_lowest n t is) (omega arith) ∙ sym (bit_at-suc n i)

-- the number without its lowest bit
pub dropped_same : (n t : ℕ) → IsLowestBit n t → bit_at (bit_and n (n - 1)) t ≡ 0
dropped_same n t is = let none = less_same n t is in bit_at_and n (n - 1) t ∙ omega arith

pub dropped_other : (n t i : ℕ) → IsLowestBit n t → i ≢ t → bit_at (bit_and n (n - 1)) i ≡ bit_at n i
dropped_other n t i is other = bit_at_and n (n - 1) i ∙ ⊎_elim
    (λ below. let none = is.none_below i below in omega arith)
    (λ above. let same = less_above n t i is (omega (arith, above, other)) in omega arith)
    (cases_lt i t)

-- the bits from 1 up to a number
upto : (last : ℕ) → last ≤ 36 → 2 * 2 ^ last % 2 ^ 64 - 2 ≡ 2 ^ (last + 1) - 2 ^ 1
upto last low =
    let far : 2 ^ last ≤ 2 ^ 36 = pow_mono low in
    let twice : 2 ^ (last + 1) ≡ 2 ^ last * 2 = ap (λ k. 2 ^ k) (add_one last) ∙ pow-suc 2 last in
    omega (arith, far, twice)
  where
    add_one : (k : ℕ) → k + 1 ≡ suc k
    add_one k = omega arith

pub two_upto : (last : ℕ) → last ≤ 36 → 2 ≤ 2 * 2 ^ last % 2 ^ 64
two_upto last low = let far : 2 ^ last ≤ 2 ^ 36 = pow_mono low in let some = pow_pos last in omega (arith, far, some)

pub bit_masked : (n last d : ℕ) → 1 ≤ d → d ≤ last → last ≤ 36 → bit_at (bit_and n (2 * 2 ^ last % 2 ^ 64 - 2)) d ≡ 0 → bit_at n d ≡ 0
bit_masked n last d low high small none =
    let inside = ap (λ m. bit_at m d) (upto last small) ∙ bit_at_mask_inside 1 (last + 1) d low (omega arith) in
    let both = bit_at_and n (2 * 2 ^ last % 2 ^ 64 - 2) d in
    let bit = bit_at-lt n d in
    omega (arith, inside, both, none, bit)

pub bit_past_mask : (n last d : ℕ) → last ≤ 36 → bit_at (bit_and n (2 * 2 ^ last % 2 ^ 64 - 2)) d ≡ 1 → d ≤ last
bit_past_mask n last d small told = ⊎_elim
    (λ inside. omega arith)
    (λ past.
    let above = ap (λ m. bit_at m d) (upto last small) ∙ bit_at_mask_above 1 (last + 1) d past in
    let both = bit_at_and n (2 * 2 ^ last % 2 ^ 64 - 2) d in
    absurd (omega (arith, above, both, told)))
    (cases_lt d (last + 1))
