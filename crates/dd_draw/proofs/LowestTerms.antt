-- Division of numerator and denominator by their greatest common divisor.
use Rattle.std.proofs.Common.{◌≡◌, ◌⊎◌, ℕ, zero, suc, ◌*◌, ◌/◌, ◌<◌, ◌≤◌, ◌^◌, ℤ, pos, negsuc, SFits, to_z, of_z, ◌-ℤ◌, ◌*ℤ◌, ◌<ℤ◌, ◌≤ℤ◌, nat_abs, inl, inr, refl, sym, ap, ◌∙◌, subst, ⊎_elim, arith}
use Rattle.std.specs.Int.{IsGcd, w128}
use Rattle.std.proofs.Common.{true, false}
use lib.Signed.{lt_z}
use Rattle.std.proofs.lemmas.Int.{ints, to_z-of_z}
use Rattle.std.proofs.Math.Nat.{div-mul_cancel}
use Rattle.dd_cells.specs.declared.fractions.Fraction.{Fraction}
use Rattle.dd_cells.proofs.FractionLemmas.{reduced_quotient, divisor_positive}
use Rattle.dd_lattice.proofs.Rings.{at, nat, equal, ◌⊟◌, ◌⊠◌}
use Rattle.dd_draw.specs.Limit.{IsLowest, IsWide, IsNarrow}

-- a size with the sign of a number
abbrev pub signed : ℤ → ℕ → ℤ
signed (pos n) q = pos q
signed (negsuc n) q = pos 0 -ℤ pos q

signed_size : (z : ℤ) (q : ℕ) → nat_abs (signed z q) ≡ q
signed_size (pos n) q = refl
signed_size (negsuc n) zero = refl
signed_size (negsuc n) (suc q) = size_of (suc q)
  where
    size_of : (q : ℕ) → nat_abs (pos 0 -ℤ pos q) ≡ q
    size_of zero = refl
    size_of (suc q) = omega (arith, ints)

pub signed-negative : (z : ℤ) (q : ℕ) → z <ℤ pos 0 → signed z q ≡ pos 0 -ℤ pos q
signed-negative (pos n) q h = absurd (omega (arith, ints, h))
signed-negative (negsuc n) q h = refl

pub signed-positive : (z : ℤ) (q : ℕ) → pos 0 ≤ℤ z → signed z q ≡ pos q
signed-positive (pos n) q h = refl
signed-positive (negsuc n) q h = absurd (omega (arith, ints, h))

cross : (a d g : ℕ) → IsGcd a d g → a / g * d ≡ a * (d / g)
cross a d g is =
    let m = div-mul_cancel g is.0 in
    let n = div-mul_cancel g is.1 in
    let one = ap (λ k. a / g * k) n in
    let two = ap (λ k. k * (d / g)) m in
    omega arith

signed_cross : (z : ℤ) (q d e : ℕ) → q * d ≡ nat_abs z * e → signed z q *ℤ pos d ≡ z *ℤ pos e
signed_cross (pos n) q d e h = ap pos h
signed_cross (negsuc n) q d e h =
    equal ((nat 0 ⊟ nat q) ⊠ nat d) (at (negsuc n) ⊠ nat e) (let t : suc n * e ≡ q * d = sym h in omega arith)

-- the quotients by a greatest common divisor
abbrev pub divided : ℤ → ℤ → ℕ → Fraction
divided num den g = record { num = signed num (nat_abs num / g); den = pos (nat_abs den / g) }

positive_size : (den : ℤ) → pos 0 <ℤ den → (1 ≤ nat_abs den) × (den ≡ pos (nat_abs den))
positive_size (pos n) h = (omega (arith, ints, h), refl)
positive_size (negsuc n) h = absurd (omega (arith, ints, h))

pub divided_lowest : (num den : ℤ) (g : ℕ) → pos 0 <ℤ den → IsGcd (nat_abs num) (nat_abs den) g
    → IsLowest (divided num den g) (record { over = num; under = den })
divided_lowest num den g some is =
    let size = positive_size den some in
    record {
      reduced = reduced_quotient (nat_abs num) (nat_abs den) g (divided num den g) is size.0 (signed_size num (nat_abs num / g)) refl;
      value = ap (λ z. signed num (nat_abs num / g) *ℤ z) size.1 ∙ signed_cross num (nat_abs num / g) (nat_abs den) (nat_abs den / g) (cross (nat_abs num) (nat_abs den) g is);
    }

pub divided_wide : (num den : ℤ) (g : ℕ) → pos 0 <ℤ den → IsGcd (nat_abs num) (nat_abs den) g
    → (2 ^ 62 < nat_abs num / g) ⊎ (2 ^ 62 < nat_abs den / g) → IsWide (record { over = num; under = den })
divided_wide num den g some is high = record {
  lowest = divided num den g;
  is_lowest = divided_lowest num den g some is;
  over_limit = ⊎_elim (λ h. inl (subst (λ n. 2 ^ 62 < n) (sym (signed_size num (nat_abs num / g))) h)) (λ h. inr h) high;
}

pub divided_narrow : (num den : ℤ) (g : ℕ) (x : Fraction) → pos 0 <ℤ den → IsGcd (nat_abs num) (nat_abs den) g
    → nat_abs num / g ≤ 2 ^ 62 → nat_abs den / g ≤ 2 ^ 62 → x.num ≡ signed num (nat_abs num / g) → x.den ≡ pos (nat_abs den / g)
    → IsNarrow x (record { over = num; under = den })
divided_narrow num den g x some is low high top bottom =
    let same : divided num den g ≡ x = λ i. record { num = sym top i; den = sym bottom i } in
    subst (λ y. IsNarrow y (record { over = num; under = den })) same
    (let l = divided_lowest num den g some is in record {
      within = record { reduced = l.reduced; num = subst (λ n. n ≤ 2 ^ 62) (sym (signed_size num (nat_abs num / g))) low; den = high };
      value = l.value;
    })

pub gcd_positive : (num den : ℤ) (g : ℕ) → pos 0 <ℤ den → IsGcd (nat_abs num) (nat_abs den) g → 0 < g
gcd_positive num den g some is = divisor_positive (nat_abs num) (nat_abs den) g is (positive_size den some).0

-- what code reads of the size of a number
pub size_read : (z : ℤ) (a : ℕ) → SFits w128 z → a ≡ nat_abs (to_z w128 (of_z w128 z)) → a ≡ nat_abs z
size_read z a fits e = e ∙ ap nat_abs (to_z-of_z w128 z fits)

pub sizes : (num den : ℤ) (a b g : ℕ) → a ≡ nat_abs num → b ≡ nat_abs den → IsGcd a b g → IsGcd (nat_abs num) (nat_abs den) g
sizes num den a b g p q is = subst (λ n. IsGcd (nat_abs num) n g) q (subst (λ n. IsGcd n b g) p is)

pub read_wide : (num den : ℤ) (a b g : ℕ) → pos 0 <ℤ den → a ≡ nat_abs num → b ≡ nat_abs den → IsGcd a b g
    → (2 ^ 62 < a / g) ⊎ (2 ^ 62 < b / g) → IsWide (record { over = num; under = den })
read_wide num den a b g some p q is high =
    divided_wide num den g some (sizes num den a b g p q is)
    (⊎_elim (λ h. inl (subst (λ n. 2 ^ 62 < n / g) p h)) (λ h. inr (subst (λ n. 2 ^ 62 < n / g) q h)) high)

pub read_narrow : (num den : ℤ) (a b g : ℕ) (x : Fraction) → pos 0 <ℤ den → a ≡ nat_abs num → b ≡ nat_abs den → IsGcd a b g
    → a / g ≤ 2 ^ 62 → b / g ≤ 2 ^ 62 → x.num ≡ signed num (a / g) → x.den ≡ pos (b / g) → IsNarrow x (record { over = num; under = den })
read_narrow num den a b g x some p q is low high top bottom =
    divided_narrow num den g x some (sizes num den a b g p q is) (subst (λ n. n / g ≤ 2 ^ 62) p low) (subst (λ n. n / g ≤ 2 ^ 62) q high)
    (top ∙ ap (λ n. signed num (n / g)) p) (bottom ∙ ap (λ n. pos (n / g)) q)

pub read_size : (q : ℕ) → q ≤ 2 ^ 62 → to_z w128 q ≡ pos q
read_size q low = omega (arith, ints)

pub read_negated : (q : ℕ) → q ≤ 2 ^ 62 → to_z w128 (of_z w128 (pos 0 -ℤ to_z w128 q)) ≡ pos 0 -ℤ pos q
read_negated q low = omega (arith, ints)

pub read_negative : (z : ℤ) → SFits w128 z → lt_z (to_z w128 (of_z w128 z)) (pos 0) ≡ true → z <ℤ pos 0
read_negative z fits e = omega (arith, ints)

pub read_positive : (z : ℤ) → SFits w128 z → lt_z (to_z w128 (of_z w128 z)) (pos 0) ≡ false → pos 0 ≤ℤ z
read_positive z fits e = omega (arith, ints)
