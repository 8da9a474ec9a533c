-- Ratios with one value: their sums, products and quotients, and what is in lowest terms.
use Rattle.std.proofs.Common.{◌≡◌, ◌≢◌, pos, ◌-ℤ◌, ◌*ℤ◌, refl, sym, ap, ◌∙◌, subst, ⊎_elim, arith}
use Rattle.dd_cells.specs.Fraction.{IsReduced}
use Rattle.dd_cells.specs.declared.fractions.Fraction.{Fraction}
use Rattle.dd_lattice.proofs.Rings.{at, equal, ◌⊟◌, ◌⊠◌}
use Rattle.dd_draw.proofs.Integers.{cancel, positive_nonzero, product_nonzero, same_fraction}
use Rattle.dd_draw.specs.Elimination.{Ratio, quotient, product, difference}
use Rattle.dd_draw.specs.Limit.{IsOverLimit, IsWide, IsWithin, IsNarrow, ratio_of}

-- Two ratios have one value, and this is a number.
pub record IsSame (r s : Ratio) : Type 0 where
  pub cross : r.over *ℤ s.under ≡ s.over *ℤ r.under
  pub left : r.under ≢ pos 0
  pub right : s.under ≢ pos 0

pub IsSame-sym : (r s : Ratio) → IsSame r s → IsSame s r
IsSame-sym r s e = record { cross = sym e.cross; left = e.right; right = e.left }

pub IsSame-refl : (r : Ratio) → r.under ≢ pos 0 → IsSame r r
IsSame-refl r some = record { cross = refl; left = some; right = some }

pub quotient_same : (r r' s s' : Ratio) → IsSame r r' → IsSame s s' → s.over ≢ pos 0 → s'.over ≢ pos 0 → IsSame (quotient r s) (quotient r' s')
quotient_same r r' s s' e f some more = record {
  cross =
      let a = at r.over in let b = at r.under in let a' = at r'.over in let b' = at r'.under in
      let c = at s.over in let d = at s.under in let c' = at s'.over in let d' = at s'.under in
      equal ((a ⊠ d) ⊠ (b' ⊠ c')) ((a ⊠ b') ⊠ (c' ⊠ d)) (omega arith)
      ∙ (λ i. e.cross i *ℤ sym f.cross i)
      ∙ equal ((a' ⊠ b) ⊠ (c ⊠ d')) ((a' ⊠ d') ⊠ (b ⊠ c)) (omega arith);
  left = product_nonzero r.under s.over e.left some;
  right = product_nonzero r'.under s'.over e.right more;
}

pub product_same : (r r' s s' : Ratio) → IsSame r r' → IsSame s s' → IsSame (product r s) (product r' s')
product_same r r' s s' e f = record {
  cross =
      let a = at r.over in let b = at r.under in let a' = at r'.over in let b' = at r'.under in
      let c = at s.over in let d = at s.under in let c' = at s'.over in let d' = at s'.under in
      equal ((a ⊠ c) ⊠ (b' ⊠ d')) ((a ⊠ b') ⊠ (c ⊠ d')) (omega arith)
      ∙ (λ i. e.cross i *ℤ f.cross i)
      ∙ equal ((a' ⊠ b) ⊠ (c' ⊠ d)) ((a' ⊠ c') ⊠ (b ⊠ d)) (omega arith);
  left = product_nonzero r.under s.under e.left f.left;
  right = product_nonzero r'.under s'.under e.right f.right;
}

pub difference_same : (r r' s s' : Ratio) → IsSame r r' → IsSame s s' → IsSame (difference r s) (difference r' s')
difference_same r r' s s' e f = record {
  cross =
      let a = at r.over in let b = at r.under in let a' = at r'.over in let b' = at r'.under in
      let c = at s.over in let d = at s.under in let c' = at s'.over in let d' = at s'.under in
      equal (((a ⊠ d) ⊟ (c ⊠ b)) ⊠ (b' ⊠ d')) (((a ⊠ b') ⊠ (d ⊠ d')) ⊟ ((c ⊠ d') ⊠ (b ⊠ b'))) (omega arith)
      ∙ (λ i. e.cross i *ℤ (s.under *ℤ s'.under) -ℤ f.cross i *ℤ (r.under *ℤ r'.under))
      ∙ equal (((a' ⊠ b) ⊠ (d ⊠ d')) ⊟ ((c' ⊠ d) ⊠ (b ⊠ b'))) (((a' ⊠ d') ⊟ (c' ⊠ b')) ⊠ (b ⊠ d)) (omega arith);
  left = product_nonzero r.under s.under e.left f.left;
  right = product_nonzero r'.under s'.under e.right f.right;
}

-- ## In lowest terms

pub value_along : (x : Fraction) (r s : Ratio) → IsSame r s → x.num *ℤ r.under ≡ r.over *ℤ x.den → x.num *ℤ s.under ≡ s.over *ℤ x.den
value_along x r s e is =
    let n = at x.num in let m = at x.den in
    let a = at r.over in let b = at r.under in let c = at s.over in let d = at s.under in
    cancel (x.num *ℤ s.under) (s.over *ℤ x.den) r.under e.left
    (equal ((n ⊠ d) ⊠ b) ((n ⊠ b) ⊠ d) (omega arith) ∙ ap (λ z. z *ℤ s.under) is
    ∙ equal ((a ⊠ m) ⊠ d) ((a ⊠ d) ⊠ m) (omega arith) ∙ ap (λ z. z *ℤ x.den) e.cross
    ∙ equal ((c ⊠ b) ⊠ m) ((c ⊠ m) ⊠ b) (omega arith))

pub narrow_along : (x : Fraction) (r s : Ratio) → IsSame r s → IsNarrow x r → IsNarrow x s
narrow_along x r s e h = record { within = h.within; value = value_along x r s e h.value }

pub wide_along : (r s : Ratio) → IsSame r s → IsWide r → IsWide s
wide_along r s e h = record {
  lowest = h.lowest;
  is_lowest = record { reduced = h.is_lowest.reduced; value = value_along h.lowest r s e h.is_lowest.value };
  over_limit = h.over_limit;
}

pub den_nonzero : (x : Fraction) → IsWithin x → x.den ≢ pos 0
den_nonzero x h = positive_nonzero x.den h.reduced.positive

-- a narrow fraction as a ratio has the value of what it is
pub same_from_narrow : (x : Fraction) (r : Ratio) → r.under ≢ pos 0 → IsNarrow x r → IsSame (ratio_of x) r
same_from_narrow x r some h = record { cross = h.value; left = den_nonzero x h.within; right = some }

lowest_unique : (x y : Fraction) (r : Ratio) → r.under ≢ pos 0 → IsReduced x → IsReduced y → x.num *ℤ r.under ≡ r.over *ℤ x.den
    → y.num *ℤ r.under ≡ r.over *ℤ y.den → x ≡ y
lowest_unique x y r some rx ry p q =
    let n = at x.num in let m = at x.den in let u = at y.num in let v = at y.den in let a = at r.over in let b = at r.under in
    same_fraction x y rx ry (cancel (x.num *ℤ y.den) (y.num *ℤ x.den) r.under some
    (equal ((n ⊠ v) ⊠ b) ((n ⊠ b) ⊠ v) (omega arith) ∙ ap (λ z. z *ℤ y.den) p
    ∙ equal ((a ⊠ m) ⊠ v) ((a ⊠ v) ⊠ m) (omega arith) ∙ ap (λ z. z *ℤ x.den) (sym q)
    ∙ equal ((u ⊠ b) ⊠ m) ((u ⊠ m) ⊠ b) (omega arith)))

-- What is narrow is not wide.
pub narrow_not_wide : (x : Fraction) (r : Ratio) → r.under ≢ pos 0 → IsNarrow x r → IsWide r → ⊥
narrow_not_wide x r some h w =
    let same = lowest_unique w.lowest x r some w.is_lowest.reduced h.within.reduced w.is_lowest.value h.value in
    let over = subst IsOverLimit same w.over_limit in
    let num = h.within.num in
    let den = h.within.den in
    ⊎_elim (λ big. absurd (omega arith)) (λ big. absurd (omega arith)) over
