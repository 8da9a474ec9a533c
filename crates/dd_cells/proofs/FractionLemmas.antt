-- Reduced fractions: that division by the greatest common divisor makes one, and that it is determined by its value.
use Rattle.std.proofs.Common.{◌≡◌, ℕ, zero, suc, ◌+◌, ◌*◌, ◌/◌, ◌%◌, ◌<◌, ◌≤◌, ℤ, pos, neg_ℤ, ◌-ℤ◌, ◌*ℤ◌, ◌<ℤ◌, nat_abs, refl, sym, ap, ◌∙◌, subst, ⊎_elim, arith}
use Rattle.std.specs.Int.{IsGcd, abs_diff, ◌∣◌}
use Rattle.std.proofs.lemmas.Int.{ints, unsigned_abs-mul}
use Rattle.std.proofs.lemmas.Nat.Gcd.{dvd_antisymm, le_of_dvd, IsGcd-from_zero, IsGcd-from_mod}
use Rattle.std.proofs.Math.Nat.{dvd-mul_left, div-mul_cancel, div-add-mod, pos_of_dvd_of_pos, mul-lt-mul_of_pos_right}
use Rattle.std.proofs.lemmas.Nat.{mod-mul-add}
use Rattle.std.proofs.lemmas.Bool.{cases_lt}
use borrow.Author.Differences.{up, down}
use Rattle.dd_cells.specs.Fraction.{Divides, IsReduced, IsQuotient}
use Rattle.dd_cells.specs.declared.fractions.Fraction.{Fraction}

-- ## Divisors

pub dvd_from_Divides : (d n : ℕ) → Divides d n → d ∣ n
dvd_from_Divides d n h = subst (λ m. d ∣ m) h.product (dvd-mul_left d h.quotient)

pub Divides-from_dvd : (d n : ℕ) → d ∣ n → Divides d n
Divides-from_dvd d n h = record { quotient = n / d; product = div-mul_cancel d h }

pub divisor_positive : (a b g : ℕ) → IsGcd a b g → 1 ≤ b → 0 < g
divisor_positive a b g is some = pos_of_dvd_of_pos is.1 some

-- ## Division by the greatest common divisor

-- a number that divides both quotients is 1
quotients_coprime : (a b g d : ℕ) → IsGcd a b g → 1 ≤ b → Divides d (a / g) → Divides d (b / g) → d ≡ 1
quotients_coprime a b g d is some da db =
    let some_g = divisor_positive a b g is some in
    let whole_a = div-mul_cancel g is.0 in
    let whole_b = div-mul_cancel g is.1 in
    let to_a : Divides (d * g) a = record { quotient = da.quotient; product = let e = ap (λ n. n * g) da.product in omega arith } in
    let to_b : Divides (d * g) b = record { quotient = db.quotient; product = let e = ap (λ n. n * g) db.product in omega arith } in
    let low : d * g ≤ g = le_of_dvd some_g (is.2 (d * g) (dvd_from_Divides (d * g) a to_a) (dvd_from_Divides (d * g) b to_b)) in
    one_from_product d g b db.quotient some_g low some to_b.product
  where
    one_from_product : (d g b q : ℕ) → 0 < g → d * g ≤ g → 1 ≤ b → q * (d * g) ≡ b → d ≡ 1
    one_from_product zero g b q some low more e = omega arith
    one_from_product (suc zero) g b q some low more e = refl
    one_from_product (suc (suc d)) g b q some low more e = let big : 2 * g ≤ suc (suc d) * g = grind arith in absurd (omega arith)

-- ## Euclid's lemma

scaled_remainder : (a b e : ℕ) → 1 ≤ b → (a * e) % (b * e) ≡ a % b * e
scaled_remainder a b zero some = let x : a * zero ≡ 0 = omega arith in let y : a % b * zero ≡ 0 = omega arith in ap (λ n. n % (b * zero)) x ∙ zero_mod (b * zero) ∙ sym y
  where
    zero_mod : (n : ℕ) → 0 % n ≡ 0
    zero_mod n = grind arith
scaled_remainder a b (suc e) some =
    let split = div-add-mod a b in
    let below : a % b < b = grind arith in
    let scaled : a % b * suc e < b * suc e = mul-lt-mul_of_pos_right below (omega arith) in
    let whole : a * suc e ≡ a / b * (b * suc e) + a % b * suc e = let t = ap (λ n. n * suc e) split in omega arith in
    ap (λ n. n % (b * suc e)) whole ∙ mod-mul-add (a / b) (b * suc e) (a % b * suc e) scaled

-- a greatest common divisor, also after multiplication by e
record HasScaledGcd (a b e : ℕ) : Type 0 where
  pub divisor : ℕ
  pub plain : IsGcd a b divisor
  pub scaled : IsGcd (a * e) (b * e) (divisor * e)

scaled_gcd : (fuel a b e : ℕ) → b < fuel → HasScaledGcd a b e
scaled_gcd zero a b e short = absurd (omega arith)
scaled_gcd (suc fuel) a zero e short = record {
  divisor = a;
  plain = IsGcd-from_zero a zero refl;
  scaled = IsGcd-from_zero (a * e) (zero * e) (omega arith);
}
scaled_gcd (suc fuel) a (suc b) e short =
    let below : a % suc b < suc b = grind arith in
    let rest = scaled_gcd fuel (suc b) (a % suc b) e (omega arith) in
    record {
      divisor = rest.divisor;
      plain = IsGcd-from_mod a (suc b) rest.divisor rest.plain;
      scaled = IsGcd-from_mod (a * e) (suc b * e) (rest.divisor * e)
          (subst (λ m. IsGcd (suc b * e) m (rest.divisor * e)) (sym (scaled_remainder a (suc b) e (omega arith))) rest.scaled);
    }

-- d divides a product and has no divisor in common with a factor
euclid : (d a e : ℕ) → ((k : ℕ) → Divides k a → Divides k d → k ≡ 1) → d ∣ a * e → d ∣ e
euclid d a e coprime h =
    let has = scaled_gcd (suc a) d a e (omega arith) in
    let one : has.divisor ≡ 1 = coprime has.divisor (Divides-from_dvd has.divisor a has.plain.1) (Divides-from_dvd has.divisor d has.plain.0) in
    let swap : e * d ≡ d * e = omega arith in
    let same : has.divisor * e ≡ e = let t = ap (λ k. k * e) one in omega arith in
    subst (λ m. d ∣ m) same (has.scaled.2 d (subst (λ m. d ∣ m) swap (dvd-mul_left d e)) h)

-- two reduced quotients of naturals that are equal have one denominator
same_denominator : (a d b e : ℕ) → ((k : ℕ) → Divides k a → Divides k d → k ≡ 1) → ((k : ℕ) → Divides k b → Divides k e → k ≡ 1)
    → a * e ≡ b * d → d ≡ e
same_denominator a d b e x y cross =
    dvd_antisymm
    (euclid d a e x (subst (λ m. d ∣ m) (sym cross) (dvd-mul_left d b)))
    (euclid e b d y (subst (λ m. e ∣ m) cross (dvd-mul_left e a)))

-- ## Values

-- the difference of two numbers, of which the size is a multiple of g
positive_value : (gain loss den g : ℕ) → loss ≤ gain → IsGcd (abs_diff gain loss) den g
    → pos (abs_diff gain loss / g) *ℤ pos den ≡ (pos gain -ℤ pos loss) *ℤ pos (den / g)
positive_value gain loss den g low is =
    let size = div-mul_cancel g is.0 in
    let rest = div-mul_cancel g is.1 in
    let a = abs_diff gain loss / g in
    let b = den / g in
    let diff : pos gain -ℤ pos loss ≡ pos (a * g) = omega (arith, ints) in
    let cross : a * den ≡ a * g * b = let t = ap (λ n. a * n) rest in omega arith in
    ap pos cross ∙ ap (λ z. z *ℤ pos b) (sym diff)

negative_product : (a b : ℕ) → neg_ℤ (pos a) *ℤ pos b ≡ neg_ℤ (pos (a * b))
negative_product zero b = let e : zero * b ≡ 0 = omega arith in ap pos e ∙ sym (ap (λ n. neg_ℤ (pos n)) e)
negative_product (suc a) b = refl

negative_value : (gain loss den g : ℕ) → gain < loss → IsGcd (abs_diff gain loss) den g
    → neg_ℤ (pos (abs_diff gain loss / g)) *ℤ pos den ≡ (pos gain -ℤ pos loss) *ℤ pos (den / g)
negative_value gain loss den g high is =
    let size = div-mul_cancel g is.0 in
    let rest = div-mul_cancel g is.1 in
    let a = abs_diff gain loss / g in
    let b = den / g in
    let diff : pos gain -ℤ pos loss ≡ neg_ℤ (pos (a * g)) = omega (arith, ints) in
    let cross : a * den ≡ a * g * b = let t = ap (λ n. a * n) rest in omega arith in
    negative_product a den ∙ ap (λ n. neg_ℤ (pos n)) cross ∙ sym (negative_product (a * g) b) ∙ ap (λ z. z *ℤ pos b) (sym diff)

-- the fraction with the quotients by the greatest common divisor is reduced
pub reduced_quotient : (size den g : ℕ) (x : Fraction) → IsGcd size den g → 1 ≤ den → nat_abs x.num ≡ size / g → x.den ≡ pos (den / g) → IsReduced x
reduced_quotient size den g x is some num bottom =
    let rest = div-mul_cancel g is.1 in
    let more : 0 < den / g = positive_quotient (den / g) g den rest some in
    record {
      positive = subst (λ z. pos 0 <ℤ z) (sym bottom) (omega (arith, ints));
      coprime = λ d over under.
          quotients_coprime size den g d is some (subst (Divides d) num over) (subst (Divides d) (ap nat_abs bottom) under);
    }
  where
    positive_quotient : (q g n : ℕ) → q * g ≡ n → 1 ≤ n → 0 < q
    positive_quotient zero g n e low = omega arith
    positive_quotient (suc q) g n e low = omega arith

pub quotient_value : (gain loss den g : ℕ) (x : Fraction) → IsGcd (abs_diff gain loss) den g → (loss ≤ gain → x.num ≡ pos (abs_diff gain loss / g))
    → (gain < loss → x.num ≡ neg_ℤ (pos (abs_diff gain loss / g))) → x.den ≡ pos (den / g) → IsQuotient x (pos gain -ℤ pos loss) den
quotient_value gain loss den g x is above below bottom = record {
  product =
      let goal : (z : ℤ) → x.num ≡ z → z *ℤ pos den ≡ (pos gain -ℤ pos loss) *ℤ pos (den / g) → x.num *ℤ pos den ≡ (pos gain -ℤ pos loss) *ℤ x.den =
      λ z e value. ap (λ y. y *ℤ pos den) e ∙ value ∙ ap (λ y. (pos gain -ℤ pos loss) *ℤ y) (sym bottom) in
      ⊎_elim
      (λ high. goal (neg_ℤ (pos (abs_diff gain loss / g))) (below high) (negative_value gain loss den g high is))
      (λ low. goal (pos (abs_diff gain loss / g)) (above low) (positive_value gain loss den g low is))
      (cases_lt gain loss);
}

-- ## Uniqueness

-- a number is determined by a positive multiple of it
pub same_factor : (a b m : ℕ) → 1 ≤ m → a * m ≡ b * m → a ≡ b
same_factor a b m some e = grind arith

-- a reduced fraction by its size
reduced_sizes : (m n : ℕ) (x y : Fraction) → 1 ≤ m → nat_abs x.num * m ≡ n * nat_abs x.den → nat_abs y.num * m ≡ n * nat_abs y.den
    → nat_abs x.num * nat_abs y.den ≡ nat_abs y.num * nat_abs x.den
reduced_sizes m n x y some ex ey = cross (nat_abs x.num) (nat_abs x.den) (nat_abs y.num) (nat_abs y.den) m n some ex ey
  where
    cross : (a d b e m n : ℕ) → 1 ≤ m → a * m ≡ n * d → b * m ≡ n * e → a * e ≡ b * d
    cross a d b e m n some ex ey =
        let left : a * e * m ≡ n * d * e = let t = ap (λ k. k * e) ex in omega arith in
        let right : b * d * m ≡ n * d * e = let t = ap (λ k. k * d) ey in omega arith in
        same_factor (a * e) (b * d) m some (left ∙ sym right)

pub sizes : (x : Fraction) (n : ℤ) (d : ℕ) → IsQuotient x n d → nat_abs x.num * d ≡ nat_abs n * nat_abs x.den
sizes x n d is = sym (unsigned_abs-mul x.num (pos d)) ∙ ap nat_abs is.product ∙ unsigned_abs-mul n x.den

pub same_factor_ℤ : (a b : ℤ) (m : ℕ) → 1 ≤ m → a *ℤ pos m ≡ b *ℤ pos m → a ≡ b
same_factor_ℤ a b m some e =
    let e_up : up a * m ≡ up b * m = omega (arith, ints) in
    let e_down : down a * m ≡ down b * m = omega (arith, ints) in
    let u = same_factor (up a) (up b) m some e_up in
    let d = same_factor (down a) (down b) m some e_down in
    omega (arith, ints)

pub denominator : (x : Fraction) → IsReduced x → x.den ≡ pos (nat_abs x.den)
denominator x r = let p = r.positive in omega (arith, ints)

-- Reduced fractions with one value are equal.
pub fraction_unique : (x y : Fraction) (n : ℤ) (d : ℕ) → 1 ≤ d → IsReduced x → IsReduced y → IsQuotient x n d → IsQuotient y n d → x ≡ y
fraction_unique x y n d some rx ry qx qy =
    let cross = reduced_sizes d (nat_abs n) x y some (sizes x n d qx) (sizes y n d qy) in
    let bottom : nat_abs x.den ≡ nat_abs y.den = same_denominator (nat_abs x.num) (nat_abs x.den) (nat_abs y.num) (nat_abs y.den) rx.coprime ry.coprime cross in
    let den : x.den ≡ y.den = denominator x rx ∙ ap pos bottom ∙ sym (denominator y ry) in
    let num : x.num ≡ y.num = same_factor_ℤ x.num y.num d some (qx.product ∙ ap (λ z. n *ℤ z) den ∙ sym qy.product) in
    λ i. record { num = num i; den = den i }
