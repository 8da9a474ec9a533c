-- Sums and products of numerators and denominators within the limit fit, and what they are as ratios.
use Rattle.std.proofs.Common.{true, ◌≡◌, ◌≢◌, ◌⊎◌, zero, suc, ◌*◌, ◌<◌, ◌≤◌, ◌^◌, ℤ, pos, negsuc, SFits, to_z, of_z, ◌-ℤ◌, ◌*ℤ◌, ◌<ℤ◌, nat_abs, Option, Some, None, MatchOption, false, inl, ⊎_elim, sym, ap, ◌∙◌, subst, lit<, arith}
use lib.Signed.{lt_z}
use Rattle.std.specs.Int.{w128}
use Rattle.std.proofs.lemmas.Int.{ints, to_z-of_z, fits_signed_from_abs, fits_signed_mul, unsigned_abs-mul}
use Rattle.std.proofs.Math.Nat.{mul-le-mul_right}
use Rattle.dd_cells.specs.declared.fractions.Fraction.{Fraction}
use Rattle.dd_lattice.proofs.Rings.{at, nat, equal, ◌⊟◌, ◌⊠◌}
use Rattle.dd_draw.proofs.Integers.{product_nonzero}
use Rattle.dd_draw.proofs.Ratios.{IsSame, IsSame-refl, wide_along, narrow_along, narrow_not_wide, den_nonzero, same_from_narrow, difference_same}
use Rattle.dd_draw.specs.Elimination.{Ratio, quotient, product, difference}
use Rattle.dd_draw.specs.Limit.{IsWide, IsWithin, IsNarrow, IsFound, ratio_of}

-- ## Numbers that fit

abbrev IsSmall : ℤ → Type 0
IsSmall z = nat_abs z ≤ 2 ^ 62

fits : (z : ℤ) → IsSmall z → SFits w128 z
fits z h = fits_signed_from_abs w128 z (omega arith)

read : (z : ℤ) → IsSmall z → to_z w128 (of_z w128 z) ≡ z
read z h = to_z-of_z w128 z (fits z h)

product_fits : (x y : ℤ) → IsSmall x → IsSmall y → SFits w128 (x *ℤ y)
product_fits x y p q = fits_signed_mul w128 x y (2 ^ 62) (2 ^ 62) p q (lit< tt)

product_bound : (x y : ℤ) → IsSmall x → IsSmall y → nat_abs (x *ℤ y) ≤ 2 ^ 124
product_bound x y p q =
    let e = unsigned_abs-mul x y in
    let a : nat_abs x * nat_abs y ≤ 2 ^ 62 * nat_abs y = mul-le-mul_right (nat_abs y) p in
    omega arith

pub read_product : (x y : ℤ) → IsSmall x → IsSmall y
    → to_z w128 (of_z w128 (to_z w128 (of_z w128 x) *ℤ to_z w128 (of_z w128 y))) ≡ x *ℤ y
read_product x y p q =
    ap (λ z. to_z w128 (of_z w128 (z *ℤ to_z w128 (of_z w128 y)))) (read x p)
    ∙ ap (λ z. to_z w128 (of_z w128 (x *ℤ z))) (read y q)
    ∙ to_z-of_z w128 (x *ℤ y) (product_fits x y p q)

pub read_product_fits : (x y : ℤ) → IsSmall x → IsSmall y → SFits w128 (to_z w128 (of_z w128 x) *ℤ to_z w128 (of_z w128 y))
read_product_fits x y p q =
    subst (SFits w128) (ap (λ z. x *ℤ z) (sym (read y q)) ∙ ap (λ z. z *ℤ to_z w128 (of_z w128 y)) (sym (read x p))) (product_fits x y p q)

difference_fits : (a b : ℤ) → nat_abs a ≤ 2 ^ 124 → nat_abs b ≤ 2 ^ 124 → SFits w128 (a -ℤ b)
difference_fits a b p q = fits_signed_from_abs w128 (a -ℤ b) (omega (arith, ints))

-- the numerator of a difference, as the code has it
pub read_difference_fits : (x y u v : ℤ) → IsSmall x → IsSmall y → IsSmall u → IsSmall v
    → SFits w128 (to_z w128 (of_z w128 (to_z w128 (of_z w128 x) *ℤ to_z w128 (of_z w128 y))) -ℤ to_z w128 (of_z w128 (to_z w128 (of_z w128 u) *ℤ to_z w128 (of_z w128 v))))
read_difference_fits x y u v p q r s =
    subst (SFits w128) (λ i. sym (read_product x y p q) i -ℤ sym (read_product u v r s) i)
    (difference_fits (x *ℤ y) (u *ℤ v) (product_bound x y p q) (product_bound u v r s))

pub read_difference : (x y u v : ℤ) → IsSmall x → IsSmall y → IsSmall u → IsSmall v
    → to_z w128 (of_z w128 (to_z w128 (of_z w128 (to_z w128 (of_z w128 x) *ℤ to_z w128 (of_z w128 y))) -ℤ to_z w128 (of_z w128 (to_z w128 (of_z w128 u) *ℤ to_z w128 (of_z w128 v)))))
    ≡ x *ℤ y -ℤ u *ℤ v
read_difference x y u v p q r s =
    (λ i. to_z w128 (of_z w128 (read_product x y p q i -ℤ read_product u v r s i)))
    ∙ to_z-of_z w128 (x *ℤ y -ℤ u *ℤ v) (difference_fits (x *ℤ y) (u *ℤ v) (product_bound x y p q) (product_bound u v r s))

-- a product with its sign turned
pub read_turned : (x y : ℤ) → IsSmall x → IsSmall y
    → to_z w128 (of_z w128 (pos 0 -ℤ to_z w128 (of_z w128 (to_z w128 (of_z w128 x) *ℤ to_z w128 (of_z w128 y))))) ≡ pos 0 -ℤ x *ℤ y
read_turned x y p q =
    ap (λ z. to_z w128 (of_z w128 (pos 0 -ℤ z))) (read_product x y p q)
    ∙ to_z-of_z w128 (pos 0 -ℤ x *ℤ y) (difference_fits (pos 0) (x *ℤ y) (omega arith) (product_bound x y p q))

pub read_turned_fits : (x y : ℤ) → IsSmall x → IsSmall y → SFits w128 (pos 0 -ℤ to_z w128 (of_z w128 (to_z w128 (of_z w128 x) *ℤ to_z w128 (of_z w128 y))))
read_turned_fits x y p q =
    subst (SFits w128) (λ i. pos 0 -ℤ sym (read_product x y p q) i) (difference_fits (pos 0) (x *ℤ y) (omega arith) (product_bound x y p q))

-- ## Signs

positive_product : (x y : ℤ) → pos 0 <ℤ x → pos 0 <ℤ y → pos 0 <ℤ (x *ℤ y)
positive_product (pos zero) y h k = absurd (omega (arith, ints, h))
positive_product (negsuc a) y h k = absurd (omega (arith, ints, h))
positive_product (pos (suc a)) (pos zero) h k = absurd (omega (arith, ints, k))
positive_product (pos (suc a)) (negsuc b) h k = absurd (omega (arith, ints, k))
positive_product (pos (suc a)) (pos (suc b)) h k = let more : 0 < suc a * suc b = omega arith in omega (arith, ints, more)

pub read_positive_product : (a b : Fraction) → IsWithin a → IsWithin b
    → pos 0 <ℤ to_z w128 (of_z w128 (to_z w128 (of_z w128 a.den) *ℤ to_z w128 (of_z w128 b.den)))
read_positive_product a b h k =
    subst (λ z. pos 0 <ℤ z) (sym (read_product a.den b.den h.den k.den)) (positive_product a.den b.den h.reduced.positive k.reduced.positive)

pub read_not_negative : (x y : ℤ) → IsSmall x → IsSmall y → x ≢ pos 0 → y ≢ pos 0
    → lt_z (to_z w128 (of_z w128 (to_z w128 (of_z w128 x) *ℤ to_z w128 (of_z w128 y)))) (pos 0) ≡ false
    → pos 0 <ℤ to_z w128 (of_z w128 (to_z w128 (of_z w128 x) *ℤ to_z w128 (of_z w128 y)))
read_not_negative x y p q some more e =
    let z = to_z w128 (of_z w128 (to_z w128 (of_z w128 x) *ℤ to_z w128 (of_z w128 y))) in
    let n : z ≢ pos 0 = λ none. product_nonzero x y some more (sym (read_product x y p q) ∙ none) in
    above z n e
  where
    above : (z : ℤ) → z ≢ pos 0 → lt_z z (pos 0) ≡ false → pos 0 <ℤ z
    above z n e = omega (arith, ints)

pub read_turned_positive : (x y : ℤ) → IsSmall x → IsSmall y → lt_z (to_z w128 (of_z w128 (to_z w128 (of_z w128 x) *ℤ to_z w128 (of_z w128 y)))) (pos 0) ≡ true
    → pos 0 <ℤ to_z w128 (of_z w128 (pos 0 -ℤ to_z w128 (of_z w128 (to_z w128 (of_z w128 x) *ℤ to_z w128 (of_z w128 y)))))
read_turned_positive x y p q e =
    subst (λ z. pos 0 <ℤ z) (sym (read_turned x y p q)) (turned (x *ℤ y) (ap (λ z. lt_z z (pos 0)) (sym (read_product x y p q)) ∙ e))
  where
    turned : (z : ℤ) → lt_z z (pos 0) ≡ true → pos 0 <ℤ (pos 0 -ℤ z)
    turned z e = omega (arith, ints)

-- ## Answers

-- what is answered for a ratio
abbrev pub IsAnswer : Ratio → Option Fraction → Type 0
IsAnswer r o = MatchOption o (IsWide r) (λ x. IsNarrow x r)

pub answer_along : (o : Option Fraction) (r s : Ratio) → IsSame r s → IsAnswer r o → IsAnswer s o
answer_along None r s e h = wide_along r s e h
answer_along (Some x) r s e h = narrow_along x r s e h

-- the parts of the ratio are read as they are
pub answer_at : (o : Option Fraction) (a b c d : ℤ) → a ≡ c → b ≡ d → IsAnswer (record { over = a; under = b }) o → IsAnswer (record { over = c; under = d }) o
answer_at o a b c d p q = subst (λ (r : Ratio). IsAnswer r o) (λ i. record { over = p i; under = q i })

pub turned_same : (a b : Fraction) → IsWithin a → b.num ≢ pos 0
    → IsSame (record { over = pos 0 -ℤ a.num *ℤ b.den; under = pos 0 -ℤ a.den *ℤ b.num }) (quotient (ratio_of a) (ratio_of b))
turned_same a b h some = record {
  cross = equal ((nat 0 ⊟ (at a.num ⊠ at b.den)) ⊠ (at a.den ⊠ at b.num)) ((at a.num ⊠ at b.den) ⊠ (nat 0 ⊟ (at a.den ⊠ at b.num))) (omega arith);
  left = λ e. nonzero (a.den *ℤ b.num) e (product_nonzero a.den b.num (den_nonzero a h) some);
  right = product_nonzero a.den b.num (den_nonzero a h) some;
}
  where
    nonzero : (z : ℤ) → pos 0 -ℤ z ≡ pos 0 → z ≢ pos 0 → ⊥
    nonzero z e n = n (omega (arith, ints))

pub quotient_found : (a b a' b' : Fraction) (o : Option Fraction) → IsWithin a → b'.num ≢ pos 0 → a ≡ a' → b ≡ b' → IsAnswer (quotient (ratio_of a) (ratio_of b)) o
    → IsFound (quotient (ratio_of a') (ratio_of b')) o
quotient_found a b a' b' o h some ea eb is = by_cases o (subst (λ x. IsAnswer (quotient (ratio_of x) (ratio_of b')) o) ea (subst (λ x. IsAnswer (quotient (ratio_of a) (ratio_of x)) o) eb is))
  where
    by_cases : (o : Option Fraction) → IsAnswer (quotient (ratio_of a') (ratio_of b')) o → IsFound (quotient (ratio_of a') (ratio_of b')) o
    by_cases None is = is
    by_cases (Some x) is = (is, narrow_not_wide x (quotient (ratio_of a') (ratio_of b')) (product_nonzero a'.den b'.num (den_nonzero a' (subst IsWithin ea h)) some) is)

-- what is answered for a number less a product
abbrev pub IsLess : Fraction → Fraction → Fraction → Option Fraction → Type 0
IsLess a b c o = MatchOption o (IsWide (difference (ratio_of a) (product (ratio_of b) (ratio_of c))) ⊎ IsWide (product (ratio_of b) (ratio_of c)))
    (λ x. IsNarrow x (difference (ratio_of a) (product (ratio_of b) (ratio_of c))) × ¬ (IsWide (difference (ratio_of a) (product (ratio_of b) (ratio_of c))) ⊎ IsWide (product (ratio_of b) (ratio_of c))))

pub less_along : (a b c a' b' c' : Fraction) (o : Option Fraction) → a ≡ a' → b ≡ b' → c ≡ c' → IsLess a b c o → IsLess a' b' c' o
less_along a b c a' b' c' o ea eb ec is = subst (λ x. IsLess x b' c' o) ea (subst (λ x. IsLess a x c' o) eb (subst (λ x. IsLess a b x o) ec is))

pub product_within : (a b c p : Fraction) (o : Option Fraction) → IsWithin a → IsWithin b → IsWithin c → IsNarrow p (product (ratio_of b) (ratio_of c))
    → IsAnswer (difference (ratio_of a) (ratio_of p)) o → IsLess a b c o
product_within a b c p o ha hb hc hp h = by_cases o (answer_along o (difference (ratio_of a) (ratio_of p)) (difference (ratio_of a) (product (ratio_of b) (ratio_of c))) same h)
  where
    some : (product (ratio_of b) (ratio_of c)).under ≢ pos 0
    some = product_nonzero b.den c.den (den_nonzero b hb) (den_nonzero c hc)

    same : IsSame (difference (ratio_of a) (ratio_of p)) (difference (ratio_of a) (product (ratio_of b) (ratio_of c)))
    same = difference_same (ratio_of a) (ratio_of a) (ratio_of p) (product (ratio_of b) (ratio_of c)) (IsSame-refl (ratio_of a) (den_nonzero a ha))
        (same_from_narrow p (product (ratio_of b) (ratio_of c)) some hp)

    by_cases : (o : Option Fraction) → IsAnswer (difference (ratio_of a) (product (ratio_of b) (ratio_of c))) o → IsLess a b c o
    by_cases None h = inl h
    by_cases (Some x) h =
        let less = narrow_not_wide x (difference (ratio_of a) (product (ratio_of b) (ratio_of c))) (product_nonzero a.den (product (ratio_of b) (ratio_of c)).under (den_nonzero a ha) some) h in
        (h, ⊎_elim less (narrow_not_wide p (product (ratio_of b) (ratio_of c)) some hp))
