-- Products that are 0, and fractions by their cross products.
use Rattle.std.proofs.Common.{◌≡◌, ◌≢◌, ℕ, zero, suc, ◌*◌, ◌≤◌, ℤ, pos, nat_abs, ◌+ℤ◌, ◌-ℤ◌, ◌*ℤ◌, ◌<ℤ◌, refl, sym, ap, ◌∙◌, subst, arith}
use Rattle.std.proofs.lemmas.Int.{ints, unsigned_abs-mul}
use Rattle.dd_cells.specs.Fraction.{IsReduced}
use Rattle.dd_cells.specs.declared.fractions.Fraction.{Fraction}
use Rattle.dd_cells.proofs.CurvatureLemmas.{size_zero}
use Rattle.dd_cells.proofs.FractionLemmas.{denominator, fraction_unique}
use Rattle.dd_lattice.proofs.Rings.{at, nat, equal, ◌⊞◌, ◌⊟◌, ◌⊠◌}

no_product : (m n : ℕ) → m * n ≡ 0 → (n ≡ 0 → ⊥) → m ≡ 0
no_product zero n e some = refl
no_product (suc m) n e some = absurd (some (omega arith))

pub zero_factor : (a b : ℤ) → a *ℤ b ≡ pos 0 → b ≢ pos 0 → a ≡ pos 0
zero_factor a b e some =
    size_zero a (no_product (nat_abs a) (nat_abs b) (sym (unsigned_abs-mul a b) ∙ ap nat_abs e) (λ s. some (size_zero b s)))

pub product_nonzero : (a b : ℤ) → a ≢ pos 0 → b ≢ pos 0 → a *ℤ b ≢ pos 0
product_nonzero a b some more e = some (zero_factor a b e more)

pub cancel : (a b c : ℤ) → c ≢ pos 0 → a *ℤ c ≡ b *ℤ c → a ≡ b
cancel a b c some e =
    let none : (a -ℤ b) *ℤ c ≡ pos 0 =
    equal ((at a ⊟ at b) ⊠ at c) ((at a ⊠ at c) ⊟ (at b ⊠ at c)) (omega arith) ∙ ap (λ z. z -ℤ b *ℤ c) e
    ∙ equal ((at b ⊠ at c) ⊟ (at b ⊠ at c)) (nat 0) (omega arith) in
    let same = zero_factor (a -ℤ b) c none some in
    equal (at a) (at b ⊞ (at a ⊟ at b)) (omega arith) ∙ ap (λ z. b +ℤ z) same ∙ equal (at b ⊞ nat 0) (at b) (omega arith)

pub positive_nonzero : (z : ℤ) → pos 0 <ℤ z → z ≢ pos 0
positive_nonzero z p e = let q = subst (λ y. pos 0 <ℤ y) e p in absurd (omega (arith, ints, q))

-- Reduced fractions with equal cross products are equal.
pub same_fraction : (x y : Fraction) → IsReduced x → IsReduced y → x.num *ℤ y.den ≡ y.num *ℤ x.den → x ≡ y
same_fraction x y rx ry e =
    let d = denominator x rx in
    let some : 1 ≤ nat_abs x.den = let p = rx.positive in omega (arith, ints) in
    fraction_unique x y x.num (nat_abs x.den) some rx ry
    (record { product = ap (λ z. x.num *ℤ z) (sym d) })
    (record { product = ap (λ z. y.num *ℤ z) (sym d) ∙ sym e })
