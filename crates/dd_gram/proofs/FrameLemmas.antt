-- Whole parts and whole roots.
use Rattle.std.proofs.Common.{◌≡◌, ◌≢◌, ℕ, zero, suc, ◌+◌, ◌*◌, ◌/◌, ◌%◌, ◌<◌, ◌≤◌, ◌^◌, ℤ, pos, negsuc, to_z, of_z, nat_abs, ◌+ℤ◌, ◌-ℤ◌, ◌*ℤ◌, ◌≤ℤ◌, ◌<ℤ◌, ◌-◌, FitsSigned, sym, ap, ◌∙◌, subst, ⊎_elim, arith}
use Rattle.std.specs.Int.{w64, w128, int_div_euclid, IsIsqrt}
use Rattle.std.proofs.lemmas.Int.{ints, to_z-of_z, fits_signed_from_abs}
use Rattle.dd_lattice.proofs.Rings.{nat, equal, ◌⊟◌, ◌⊠◌}
use Rattle.dd_gram.specs.Frames.{IsWholePart, IsWholeRoot}
use Rattle.std.proofs.Common.{div-add-mod', mod-lt, mul-le-mul}
use Rattle.std.proofs.lemmas.Bool.{cases_lt}
use Rattle.dd_model.proofs.IntegerSizes.{product_size}
use Rattle.dd_gram.proofs.SizeLemmas.{read128}

next_multiple : (q d : ℕ) → (negsuc q +ℤ pos 1) *ℤ pos d ≡ pos 0 -ℤ pos (q * d)
next_multiple q d =
    let e : negsuc q +ℤ pos 1 ≡ pos 0 -ℤ pos q = omega (arith, ints) in
    ap (λ z. z *ℤ pos d) e ∙ equal ((nat 0 ⊟ nat q) ⊠ nat d) (nat 0 ⊟ nat (q * d)) (omega arith)

-- the quotient that is rounded down
pub whole_part : (n d : ℤ) → pos 0 <ℤ d → IsWholePart n d (int_div_euclid n d)
whole_part (pos a) (pos zero) some = absurd (omega (arith, ints))
whole_part (pos a) (pos (suc b)) some =
    let split = div-add-mod' a (suc b) in
    let some : 0 < suc b = omega arith in
    let low : a % suc b < suc b = mod-lt a some in
    record { low = omega (arith, ints); high = omega (arith, ints) }
whole_part (negsuc a) (pos zero) some = absurd (omega (arith, ints))
whole_part (negsuc a) (pos (suc b)) some =
    let split = div-add-mod' a (suc b) in
    let some : 0 < suc b = omega arith in
    let low : a % suc b < suc b = mod-lt a some in
    record { low = omega (arith, ints); high = subst (λ z. negsuc a <ℤ z) (sym (next_multiple (a / suc b) (suc b))) (omega (arith, ints)) }
whole_part n (negsuc b) some = absurd (omega (arith, ints))

pub whole_root : (z r : ℤ) → pos 0 ≤ℤ z → IsIsqrt z r → IsWholeRoot z r
whole_root (pos m) r some is =
    let n = is.0 in
    let low : n * n ≤ m = is.2 in
    let high : m < (n + 1) * (n + 1) = is.3 in
    subst (IsWholeRoot (pos m)) (sym is.1) (record { positive = omega (arith, ints); low = omega (arith, ints); high = omega (arith, ints) })
whole_root (negsuc m) r some is = absurd (omega (arith, ints))

-- the root of a number of at most 2 ^ 107 is at most 2 ^ 54
pub root_size : (z r : ℤ) → nat_abs z ≤ 2 ^ 107 → IsIsqrt z r → nat_abs r ≤ 2 ^ 54
root_size z r small is =
    let n = is.0 in
    let low = is.2 in
    subst (λ v. nat_abs v ≤ 2 ^ 54) (sym is.1)
    (⊎_elim
    (λ less. omega arith)
    (λ more. let far : 2 ^ 54 * 2 ^ 54 ≤ n * n = mul-le-mul more more in absurd (omega arith))
    (cases_lt n (2 ^ 54)))

-- ## As the code reads and writes them

abbrev pub at_128 : ℤ → ℤ
at_128 z = to_z w128 (of_z w128 z)

pub nonzero : (z : ℤ) → pos 0 <ℤ z → nat_abs z ≤ 2 ^ 43 → 0 < of_z w128 (at_128 z)
nonzero z some small = subst (λ v. 0 < of_z w128 v) (sym (read128 z (omega arith))) (omega (arith, ints))

pub not_minus_one : (z : ℤ) → pos 0 <ℤ z → nat_abs z ≤ 2 ^ 43 → of_z w128 (at_128 z) ≢ 2 ^ 128 - 1
not_minus_one z some small = subst (λ v. of_z w128 v ≢ 2 ^ 128 - 1) (sym (read128 z (omega arith))) (λ e. absurd (omega (arith, ints)))

pub fits_128 : (z : ℤ) → nat_abs z ≤ 2 ^ 120 → FitsSigned w128 z
fits_128 z h = fits_signed_from_abs w128 z (omega arith)

module _ (a b c : ℤ) (ha : nat_abs a ≤ 2 ^ 43) (hb : nat_abs b ≤ 2 ^ 43) (hc : nat_abs c ≤ 2 ^ 43) where
  ra : at_128 a ≡ a
  ra = read128 a (omega arith)

  rb : at_128 b ≡ b
  rb = read128 b (omega arith)

  rc : at_128 c ≡ c
  rc = read128 c (omega arith)

  pub lean : pos 1000 *ℤ at_128 b ≡ pos 1000 *ℤ b
  lean = ap (λ z. pos 1000 *ℤ z) rb

  pub lean_size : nat_abs (pos 1000 *ℤ b) ≤ 1000 * 2 ^ 43
  lean_size = product_size (pos 1000) b 1000 (2 ^ 43) (omega arith) hb

  pub sides : at_128 a *ℤ at_128 c ≡ a *ℤ c
  sides = λ i. ra i *ℤ rc i

  pub sides_size : nat_abs (a *ℤ c) ≤ 2 ^ 43 * 2 ^ 43
  sides_size = product_size a c (2 ^ 43) (2 ^ 43) ha hc

  pub beside : at_128 b *ℤ at_128 b ≡ b *ℤ b
  beside = λ i. rb i *ℤ rb i

  pub beside_size : nat_abs (b *ℤ b) ≤ 2 ^ 43 * 2 ^ 43
  beside_size = product_size b b (2 ^ 43) (2 ^ 43) hb hb

  pub less : at_128 (at_128 a *ℤ at_128 c) -ℤ at_128 (at_128 b *ℤ at_128 b) ≡ a *ℤ c -ℤ b *ℤ b
  less = (λ i. at_128 (sides i) -ℤ at_128 (beside i)) ∙ (λ i. read128 (a *ℤ c) (let s = sides_size in omega arith) i -ℤ read128 (b *ℤ b) (let s = beside_size in omega arith) i)

  pub less_size : nat_abs (a *ℤ c -ℤ b *ℤ b) ≤ 2 ^ 87
  less_size = difference (a *ℤ c) (b *ℤ b) sides_size beside_size
    where
      difference : (x y : ℤ) → nat_abs x ≤ 2 ^ 43 * 2 ^ 43 → nat_abs y ≤ 2 ^ 43 * 2 ^ 43 → nat_abs (x -ℤ y) ≤ 2 ^ 87
      difference x y p q = omega (arith, ints)

  pub area : pos 1000000 *ℤ at_128 (at_128 (at_128 a *ℤ at_128 c) -ℤ at_128 (at_128 b *ℤ at_128 b)) ≡ pos 1000000 *ℤ (a *ℤ c -ℤ b *ℤ b)
  area = ap (λ z. pos 1000000 *ℤ at_128 z) less ∙ ap (λ z. pos 1000000 *ℤ z) (read128 (a *ℤ c -ℤ b *ℤ b) (let s = less_size in omega arith))

  pub area_size : nat_abs (pos 1000000 *ℤ (a *ℤ c -ℤ b *ℤ b)) ≤ 2 ^ 107
  area_size = let s = product_size (pos 1000000) (a *ℤ c -ℤ b *ℤ b) 1000000 (2 ^ 87) (omega arith) less_size in omega arith

  pub area_positive : (b *ℤ b) <ℤ (a *ℤ c) → pos 0 ≤ℤ (pos 1000000 *ℤ (a *ℤ c -ℤ b *ℤ b))
  area_positive more = positive (a *ℤ c) (b *ℤ b) more
    where
      positive : (x y : ℤ) → y <ℤ x → pos 0 ≤ℤ (pos 1000000 *ℤ (x -ℤ y))
      positive x y h = omega (arith, ints)

pub read_cast : (z : ℤ) → nat_abs z ≤ 2 ^ 60 → to_z w64 (of_z w64 (at_128 z)) ≡ z
read_cast z small = ap (λ v. to_z w64 (of_z w64 v)) (read128 z (omega arith)) ∙ to_z-of_z w64 z (fits_signed_from_abs w64 z (omega arith))

pub fits_cast : (z : ℤ) → nat_abs z ≤ 2 ^ 60 → FitsSigned w64 (at_128 z)
fits_cast z small = subst (FitsSigned w64) (sym (read128 z (omega arith))) (fits_signed_from_abs w64 z (omega arith))
