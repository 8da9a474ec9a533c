-- Numbers of spots as the code reads and writes them, boxes of more spots, and texts of more parts.
use Rattle.std.proofs.Common.{FitsSigned, ◌≤ℤ◌, ◌<ℤ◌, ◌-◌, ◌≡◌, ℕ, ◌+◌, ◌*◌, ◌<◌, ◌≤◌, ◌^◌, ℤ, pos, negsuc, int_lt, SFits, to_z, of_z, ◌+ℤ◌, ◌-ℤ◌, ◌*ℤ◌, nat_abs, Bool, true, false, cond, List, [], ◌∷◌, ◌++◌, length, take, get_or, append_assoc, refl, sym, ap, ◌∙◌, subst, arith}
use Rattle.std.specs.Int.{w64, w128, int_min, int_max, int_div_euclid}
use Rattle.std.specs.List.{flat_map}
use Rattle.std.proofs.lemmas.Int.{ints, to_z-of_z, fits_signed_from_abs, int_max_is, int_min_is}
use Rattle.std.proofs.lemmas.List.{take_more, append-nil}
use Rattle.std.proofs.lemmas.Grind.{flat_map-append}
use Rattle.dd_model.proofs.IntegerSizes.{product_size, quotient_size}
use Rattle.dd_cells.specs.declared.fractions.Fraction.{Fraction}
use Rattle.dd_draw.specs.Limit.{IsWithin}
use Rattle.dd_draw.specs.Spots.{floor_of}
use Rattle.dd_draw.specs.Extents.{covering, with_spot}
use Rattle.dd_draw.specs.declared.extent.Extent.{Extent}
use Rattle.dd_draw.specs.declared.spot.Spot.{Spot}

-- ## Numbers

-- a shift of 64 bits
pub shift_small : (x : ℤ) → SFits w64 x → nat_abs x ≤ 2 ^ 63
shift_small (pos n) f = let h = f.sfits in omega arith
shift_small (negsuc n) f = let h = f.sfits in omega arith

pub shift_read : (x r : ℤ) → SFits w64 x → r ≡ to_z w64 (of_z w64 x) → r ≡ x
shift_read x r f e = e ∙ to_z-of_z w64 x f

read : (z : ℤ) → nat_abs z ≤ 2 ^ 127 - 1 → to_z w128 (of_z w128 z) ≡ z
read z h = to_z-of_z w128 z (fits_signed_from_abs w128 z (omega arith))

-- a number that is one of two small ones
one_of : (b : Bool) (x y : ℤ) (k : ℕ) → nat_abs x ≤ k → nat_abs y ≤ k → nat_abs (cond b x y) ≤ k
one_of true x y k p q = p
one_of false x y k p q = q

pub min_read : (x y r : ℤ) → nat_abs x ≤ 2 ^ 126 + 2 ^ 125 + 2 ^ 75 → nat_abs y ≤ 2 ^ 126 + 2 ^ 125 + 2 ^ 75 → r ≡ int_min (to_z w128 (of_z w128 x)) (to_z w128 (of_z w128 y)) → to_z w128 (of_z w128 r) ≡ int_min x y
min_read x y r p q e =
    ap (λ z. to_z w128 (of_z w128 z)) (e ∙ (λ i. int_min (read x (omega arith) i) (read y (omega arith) i))) ∙ read (int_min x y) (let k = one_of (int_lt y x) y x (2 ^ 126 + 2 ^ 125 + 2 ^ 75) q p in omega arith)

pub max_read : (x y r : ℤ) → nat_abs x ≤ 2 ^ 126 + 2 ^ 125 + 2 ^ 75 → nat_abs y ≤ 2 ^ 126 + 2 ^ 125 + 2 ^ 75 → r ≡ int_max (to_z w128 (of_z w128 x)) (to_z w128 (of_z w128 y)) → to_z w128 (of_z w128 r) ≡ int_max x y
max_read x y r p q e =
    ap (λ z. to_z w128 (of_z w128 z)) (e ∙ (λ i. int_max (read x (omega arith) i) (read y (omega arith) i))) ∙ read (int_max x y) (let k = one_of (int_lt y x) x y (2 ^ 126 + 2 ^ 125 + 2 ^ 75) p q in omega arith)

pub min_small : (x y r : ℤ) → nat_abs x ≤ 2 ^ 126 + 2 ^ 125 + 2 ^ 75 → nat_abs y ≤ 2 ^ 126 + 2 ^ 125 + 2 ^ 75 → r ≡ int_min (to_z w128 (of_z w128 x)) (to_z w128 (of_z w128 y)) → nat_abs (to_z w128 (of_z w128 r)) ≤ 2 ^ 126 + 2 ^ 125 + 2 ^ 75
min_small x y r p q e = subst (λ z. nat_abs z ≤ 2 ^ 126 + 2 ^ 125 + 2 ^ 75) (sym (min_read x y r p q e)) (one_of (int_lt y x) y x (2 ^ 126 + 2 ^ 125 + 2 ^ 75) q p)

pub max_small : (x y r : ℤ) → nat_abs x ≤ 2 ^ 126 + 2 ^ 125 + 2 ^ 75 → nat_abs y ≤ 2 ^ 126 + 2 ^ 125 + 2 ^ 75 → r ≡ int_max (to_z w128 (of_z w128 x)) (to_z w128 (of_z w128 y)) → nat_abs (to_z w128 (of_z w128 r)) ≤ 2 ^ 126 + 2 ^ 125 + 2 ^ 75
max_small x y r p q e = subst (λ z. nat_abs z ≤ 2 ^ 126 + 2 ^ 125 + 2 ^ 75) (sym (max_read x y r p q e)) (one_of (int_lt y x) x y (2 ^ 126 + 2 ^ 125 + 2 ^ 75) p q)

times_small : (k x : ℤ) → nat_abs k ≤ 2 ^ 63 → nat_abs x ≤ 2 ^ 63 → nat_abs (k *ℤ x) ≤ 2 ^ 126
times_small k x p q = let s = product_size k x (2 ^ 63) (2 ^ 63) p q in omega arith

times_read : (k x j r : ℤ) → nat_abs k ≤ 2 ^ 63 → nat_abs x ≤ 2 ^ 63 → j ≡ k → r ≡ x → to_z w128 (of_z w128 (to_z w128 (of_z w128 j) *ℤ to_z w128 (of_z w128 r))) ≡ k *ℤ x
times_read k x j r p q ek ex =
    (λ i. to_z w128 (of_z w128 (to_z w128 (of_z w128 (ek i)) *ℤ to_z w128 (of_z w128 (ex i))))) ∙ (λ i. to_z w128 (of_z w128 (read k (omega arith) i *ℤ read x (omega arith) i)))
    ∙ read (k *ℤ x) (let s = times_small k x p q in omega arith)

-- the rise of a spot that is moved
pub moved_read : (s k x j r : ℤ) → nat_abs s ≤ 2 ^ 125 + 2 ^ 73 → nat_abs k ≤ 2 ^ 63 → nat_abs x ≤ 2 ^ 63 → j ≡ k → r ≡ x
    → to_z w128 (of_z w128 (to_z w128 (of_z w128 s) +ℤ to_z w128 (of_z w128 (to_z w128 (of_z w128 j) *ℤ to_z w128 (of_z w128 r))))) ≡ s +ℤ k *ℤ x
moved_read s k x j r small p q ek ex =
    let t = times_small k x p q in
    (λ i. to_z w128 (of_z w128 (read s (omega arith) i +ℤ times_read k x j r p q ek ex i))) ∙ read (s +ℤ k *ℤ x) (let n = sum_small s (k *ℤ x) small t in omega arith)
  where
    sum_small : (s t : ℤ) → nat_abs s ≤ 2 ^ 125 + 2 ^ 73 → nat_abs t ≤ 2 ^ 126 → nat_abs (s +ℤ t) ≤ 2 ^ 126 + 2 ^ 125 + 2 ^ 75
    sum_small s t p q = omega (arith, ints)

pub moved_small : (s k x : ℤ) → nat_abs s ≤ 2 ^ 125 + 2 ^ 73 → nat_abs k ≤ 2 ^ 63 → nat_abs x ≤ 2 ^ 63 → nat_abs (s +ℤ k *ℤ x) ≤ 2 ^ 126 + 2 ^ 125 + 2 ^ 75
moved_small s k x small p q = sum_small s (k *ℤ x) small (times_small k x p q)
  where
    sum_small : (s t : ℤ) → nat_abs s ≤ 2 ^ 125 + 2 ^ 73 → nat_abs t ≤ 2 ^ 126 → nat_abs (s +ℤ t) ≤ 2 ^ 126 + 2 ^ 125 + 2 ^ 75
    sum_small s t p q = omega (arith, ints)

-- and how far it goes along
two_small : (s t u : ℤ) → nat_abs s ≤ 2 ^ 125 + 2 ^ 73 → nat_abs t ≤ 2 ^ 74 → nat_abs u ≤ 2 ^ 126 → nat_abs (s +ℤ (t +ℤ u)) ≤ 2 ^ 126 + 2 ^ 125 + 2 ^ 75
two_small s t u p q r = omega (arith, ints)

inner_small : (t u : ℤ) → nat_abs t ≤ 2 ^ 74 → nat_abs u ≤ 2 ^ 126 → nat_abs (t +ℤ u) ≤ 2 ^ 127 - 1
inner_small t u p q = omega (arith, ints)

first_small : (x : ℤ) → nat_abs x ≤ 2 ^ 63 → nat_abs (pos 1000 *ℤ x) ≤ 2 ^ 74
first_small x p = let s = product_size (pos 1000) x 1000 (2 ^ 63) (omega arith) p in omega arith

first_read : (x q : ℤ) → nat_abs x ≤ 2 ^ 63 → q ≡ x → to_z w128 (of_z w128 (pos 1000 *ℤ to_z w128 (of_z w128 q))) ≡ pos 1000 *ℤ x
first_read x q p e = ap (λ z. to_z w128 (of_z w128 (pos 1000 *ℤ to_z w128 (of_z w128 z)))) e ∙ ap (λ z. to_z w128 (of_z w128 (pos 1000 *ℤ z))) (read x (omega arith)) ∙ read (pos 1000 *ℤ x) (let s = first_small x p in omega arith)

pub leaning_read : (s k x y q j r : ℤ) → nat_abs s ≤ 2 ^ 125 + 2 ^ 73 → nat_abs k ≤ 2 ^ 63 → nat_abs x ≤ 2 ^ 63 → nat_abs y ≤ 2 ^ 63 → q ≡ x → j ≡ k → r ≡ y
    → to_z w128 (of_z w128 (to_z w128 (of_z w128 s) +ℤ to_z w128 (of_z w128
    (to_z w128 (of_z w128 (pos 1000 *ℤ to_z w128 (of_z w128 q))) +ℤ to_z w128 (of_z w128 (to_z w128 (of_z w128 j) *ℤ to_z w128 (of_z w128 r))))))) ≡ s +ℤ (pos 1000 *ℤ x +ℤ k *ℤ y)
leaning_read s k x y q j r small pk px py ex ek ey =
    let t = first_small x px in
    let u = times_small k y pk py in
    (λ i. to_z w128 (of_z w128 (read s (omega arith) i +ℤ to_z w128 (of_z w128 (first_read x q px ex i +ℤ times_read k y j r pk py ek ey i)))))
    ∙ ap (λ z. to_z w128 (of_z w128 (s +ℤ z))) (read (pos 1000 *ℤ x +ℤ k *ℤ y) (inner_small (pos 1000 *ℤ x) (k *ℤ y) t u))
    ∙ read (s +ℤ (pos 1000 *ℤ x +ℤ k *ℤ y)) (let w = two_small s (pos 1000 *ℤ x) (k *ℤ y) small t u in omega arith)

pub leaning_small : (s k x y : ℤ) → nat_abs s ≤ 2 ^ 125 + 2 ^ 73 → nat_abs k ≤ 2 ^ 63 → nat_abs x ≤ 2 ^ 63 → nat_abs y ≤ 2 ^ 63 → nat_abs (s +ℤ (pos 1000 *ℤ x +ℤ k *ℤ y)) ≤ 2 ^ 126 + 2 ^ 125 + 2 ^ 75
leaning_small s k x y small pk px py = two_small s (pos 1000 *ℤ x) (k *ℤ y) small (first_small x px) (times_small k y pk py)

-- each sum on the way has room
pub along_fits : (k x y q j r : ℤ) → nat_abs k ≤ 2 ^ 63 → nat_abs x ≤ 2 ^ 63 → nat_abs y ≤ 2 ^ 63 → q ≡ x → j ≡ k → r ≡ y
    → FitsSigned w128 (to_z w128 (of_z w128 (pos 1000 *ℤ to_z w128 (of_z w128 q))) +ℤ to_z w128 (of_z w128 (to_z w128 (of_z w128 j) *ℤ to_z w128 (of_z w128 r))))
along_fits k x y q j r pk px py ex ek ey =
    let e : to_z w128 (of_z w128 (pos 1000 *ℤ to_z w128 (of_z w128 q))) +ℤ to_z w128 (of_z w128 (to_z w128 (of_z w128 j) *ℤ to_z w128 (of_z w128 r))) ≡ pos 1000 *ℤ x +ℤ k *ℤ y
    = λ i. first_read x q px ex i +ℤ times_read k y j r pk py ek ey i in
    let n = inner_small (pos 1000 *ℤ x) (k *ℤ y) (first_small x px) (times_small k y pk py) in
    subst (FitsSigned w128) (sym e) (fits_signed_from_abs w128 (pos 1000 *ℤ x +ℤ k *ℤ y) (omega arith))

pub moved_fits : (s k x y q j r : ℤ) → nat_abs s ≤ 2 ^ 125 + 2 ^ 73 → nat_abs k ≤ 2 ^ 63 → nat_abs x ≤ 2 ^ 63 → nat_abs y ≤ 2 ^ 63 → q ≡ x → j ≡ k → r ≡ y
    → FitsSigned w128 (to_z w128 (of_z w128 s) +ℤ to_z w128 (of_z w128 (to_z w128 (of_z w128 (pos 1000 *ℤ to_z w128 (of_z w128 q))) +ℤ to_z w128 (of_z w128 (to_z w128 (of_z w128 j) *ℤ to_z w128 (of_z w128 r))))))
moved_fits s k x y q j r small pk px py ex ek ey =
    let t = first_small x px in
    let u = times_small k y pk py in
    let e : to_z w128 (of_z w128 s) +ℤ to_z w128 (of_z w128 (to_z w128 (of_z w128 (pos 1000 *ℤ to_z w128 (of_z w128 q))) +ℤ to_z w128 (of_z w128 (to_z w128 (of_z w128 j) *ℤ to_z w128 (of_z w128 r))))) ≡ s +ℤ (pos 1000 *ℤ x +ℤ k *ℤ y)
    = (λ i. read s (omega arith) i +ℤ to_z w128 (of_z w128 (first_read x q px ex i +ℤ times_read k y j r pk py ek ey i)))
    ∙ ap (λ z. s +ℤ z) (read (pos 1000 *ℤ x +ℤ k *ℤ y) (inner_small (pos 1000 *ℤ x) (k *ℤ y) t u)) in
    let n = two_small s (pos 1000 *ℤ x) (k *ℤ y) small t u in
    subst (FitsSigned w128) (sym e) (fits_signed_from_abs w128 (s +ℤ (pos 1000 *ℤ x +ℤ k *ℤ y)) (omega arith))

pub times_fits : (k y j r : ℤ) → nat_abs k ≤ 2 ^ 63 → nat_abs y ≤ 2 ^ 63 → j ≡ k → r ≡ y → FitsSigned w128 (to_z w128 (of_z w128 j) *ℤ to_z w128 (of_z w128 r))
times_fits k y j r pk py ek ey =
    let e : to_z w128 (of_z w128 j) *ℤ to_z w128 (of_z w128 r) ≡ k *ℤ y
    = (λ i. to_z w128 (of_z w128 (ek i)) *ℤ to_z w128 (of_z w128 (ey i))) ∙ (λ i. read k (omega arith) i *ℤ read y (omega arith) i) in
    let n = times_small k y pk py in
    subst (FitsSigned w128) (sym e) (fits_signed_from_abs w128 (k *ℤ y) (omega arith))

pub rise_fits : (s k y j r : ℤ) → nat_abs s ≤ 2 ^ 125 + 2 ^ 73 → nat_abs k ≤ 2 ^ 63 → nat_abs y ≤ 2 ^ 63 → j ≡ k → r ≡ y
    → FitsSigned w128 (to_z w128 (of_z w128 s) +ℤ to_z w128 (of_z w128 (to_z w128 (of_z w128 j) *ℤ to_z w128 (of_z w128 r))))
rise_fits s k y j r small pk py ek ey =
    let e : to_z w128 (of_z w128 s) +ℤ to_z w128 (of_z w128 (to_z w128 (of_z w128 j) *ℤ to_z w128 (of_z w128 r))) ≡ s +ℤ k *ℤ y = λ i. read s (omega arith) i +ℤ times_read k y j r pk py ek ey i in
    let n = moved_small s k y small pk py in
    subst (FitsSigned w128) (sym e) (fits_signed_from_abs w128 (s +ℤ k *ℤ y) (omega arith))

-- ## Quotients that are rounded down

module _ (k num den r : ℤ) (pk : nat_abs k ≤ 2 ^ 63) (pn : nat_abs num ≤ 2 ^ 62) (some : pos 0 <ℤ den) (pd : nat_abs den ≤ 2 ^ 62)
    (e : r ≡ int_div_euclid (to_z w128 (of_z w128 (to_z w128 (of_z w128 k) *ℤ to_z w128 (of_z w128 num)))) (to_z w128 (of_z w128 den))) where
  quotient : r ≡ int_div_euclid (k *ℤ num) den
  quotient =
      let size = product_size k num (2 ^ 63) (2 ^ 62) pk pn in
      e ∙ (λ i. int_div_euclid (to_z w128 (of_z w128 (read k (omega arith) i *ℤ read num (omega arith) i))) (read den (omega arith) i)) ∙ (λ i. int_div_euclid (read (k *ℤ num) (omega arith) i) den)

  small : nat_abs r ≤ 2 ^ 125
  small =
      let size = product_size k num (2 ^ 63) (2 ^ 62) pk pn in
      let less = quotient_size (k *ℤ num) den some in
      subst (λ z. nat_abs z ≤ 2 ^ 125) (sym quotient) (omega arith)

  pub floor_small : nat_abs (to_z w128 (of_z w128 r)) ≤ 2 ^ 125
  floor_small = let k = small in subst (λ z. nat_abs z ≤ 2 ^ 125) (sym (read r (omega arith))) small

  pub floor_read : to_z w128 (of_z w128 r) ≡ int_div_euclid (k *ℤ num) den
  floor_read = let k = small in read r (omega arith) ∙ quotient

-- the part of a spot that the first coordinate makes, and the sum of both parts
pub thousand_small : (f : Fraction) → IsWithin f → nat_abs (floor_of (pos 1000) f) ≤ 2 ^ 73
thousand_small f within =
    let size = product_size (pos 1000) f.num 1000 (2 ^ 62) (omega arith) within.num in
    let less = quotient_size (pos 1000 *ℤ f.num) f.den within.reduced.positive in
    omega arith

pub spot_small : (a b : ℤ) → nat_abs a ≤ 2 ^ 73 → nat_abs b ≤ 2 ^ 125 → nat_abs (a +ℤ b) ≤ 2 ^ 125 + 2 ^ 73
spot_small a b p q = omega (arith, ints)

sum_size : (x y : ℤ) → nat_abs x ≤ 2 ^ 125 → nat_abs y ≤ 2 ^ 125 → nat_abs (x +ℤ y) ≤ 2 ^ 127 - 1
sum_size x y p q = omega (arith, ints)

pub spot_read : (x y : ℤ) → nat_abs x ≤ 2 ^ 125 → nat_abs y ≤ 2 ^ 125 → to_z w128 (of_z w128 (to_z w128 (of_z w128 x) +ℤ to_z w128 (of_z w128 y))) ≡ x +ℤ y
spot_read x y p q = (λ i. to_z w128 (of_z w128 (read x (omega arith) i +ℤ read y (omega arith) i))) ∙ read (x +ℤ y) (sum_size x y p q)

pub spot_fits : (x y : ℤ) → nat_abs x ≤ 2 ^ 125 → nat_abs y ≤ 2 ^ 125 → FitsSigned w128 (to_z w128 (of_z w128 x) +ℤ to_z w128 (of_z w128 y))
spot_fits x y p q =
    let n = sum_size x y p q in
    subst (FitsSigned w128) (λ i. sym (read x (omega arith)) i +ℤ sym (read y (omega arith)) i) (fits_signed_from_abs w128 (x +ℤ y) (omega arith))

pub lean_small : (j k : ℤ) → j ≡ k → nat_abs j ≤ 2 ^ 63 → nat_abs k ≤ 2 ^ 63
lean_small j k e h = subst (λ z. nat_abs z ≤ 2 ^ 63) e h

pub one_read : (x : ℤ) → nat_abs x ≤ 2 ^ 125 → to_z w128 (of_z w128 x) ≡ x
one_read x p = read x (omega arith)

-- a margin on the one side, and on both
pub margin_read : (a : ℤ) → nat_abs a ≤ 2 ^ 126 + 2 ^ 125 + 2 ^ 75 → to_z w128 (of_z w128 (to_z w128 (of_z w128 a) -ℤ pos 100)) ≡ a -ℤ pos 100
margin_read a p = ap (λ z. to_z w128 (of_z w128 (z -ℤ pos 100))) (read a (omega arith)) ∙ read (a -ℤ pos 100) (less a p)
  where
    less : (a : ℤ) → nat_abs a ≤ 2 ^ 126 + 2 ^ 125 + 2 ^ 75 → nat_abs (a -ℤ pos 100) ≤ 2 ^ 127 - 1
    less a p = omega (arith, ints)

pub width_read : (a b : ℤ) (n : ℕ) → b ≤ℤ a → nat_abs a ≤ 2 ^ 126 + 2 ^ 125 + 2 ^ 75 → nat_abs b ≤ 2 ^ 126 + 2 ^ 125 + 2 ^ 75
    → n ≡ nat_abs (to_z w128 (of_z w128 a) -ℤ to_z w128 (of_z w128 b)) → pos (n + 200) ≡ (a -ℤ b) +ℤ pos 200
width_read a b n order p q e = ap (λ m. pos (m + 200)) (e ∙ (λ i. nat_abs (read a (omega arith) i -ℤ read b (omega arith) i))) ∙ above a b order
  where
    above : (a b : ℤ) → b ≤ℤ a → pos (nat_abs (a -ℤ b) + 200) ≡ (a -ℤ b) +ℤ pos 200
    above a b h = omega (arith, ints)

min_max : (a b x : ℤ) → a ≤ℤ b → int_min a x ≤ℤ int_max b x
min_max a b x h = let p = int_min_is a x in let q = int_max_is b x in omega (arith, ints)

pub ordered : (a b x u v : ℤ) → a ≤ℤ b → u ≡ int_min a x → v ≡ int_max b x → u ≤ℤ v
ordered a b x u v h e f = subst (λ z. z ≤ℤ v) (sym e) (subst (λ z. int_min a x ≤ℤ z) (sym f) (min_max a b x h))

-- ## Boxes

pub covering_append : (e : Extent) (xs ys : List Spot) → covering e (xs ++ ys) ≡ covering (covering e xs) ys
covering_append e [] ys = refl
covering_append e (x ∷ xs) ys = covering_append (with_spot e x) xs ys

-- ## Parts in their order

pub part_more : {X Y : Type 0} (f : X → List Y) (xs : List X) (k : ℕ) (d : X) → k < length xs → flat_map f (take (k + 1) xs) ≡ flat_map f (take k xs) ++ f (get_or xs k d)
part_more f xs k d low = ap (flat_map f) (take_more xs k d low) ∙ flat_map-append f (take k xs) (get_or xs k d ∷ []) ∙ ap (λ zs. flat_map f (take k xs) ++ zs) (append-nil (f (get_or xs k d)))

-- a text with one part more
pub text_more : {X : Type 0} (f : X → List ℕ) (xs : List X) (k : ℕ) (d : X) (old now new : List ℕ) → k < length xs → now ≡ old ++ flat_map f (take k xs) → new ≡ now ++ f (get_or xs k d)
    → new ≡ old ++ flat_map f (take (k + 1) xs)
text_more f xs k d old now new low before put =
    put ∙ ap (λ t. t ++ f (get_or xs k d)) before ∙ append_assoc old (flat_map f (take k xs)) (f (get_or xs k d)) ∙ ap (λ t. old ++ t) (sym (part_more f xs k d low))

-- a box with the two spots of one edge more
pub covering_two : {X : Type 0} (f : X → List Spot) (es : List X) (k : ℕ) (d : X) (e : Extent) (xs : List Spot) (a b : Spot) (now new : Extent) → k < length es → f (get_or es k d) ≡ a ∷ b ∷ []
    → now ≡ covering e (xs ++ flat_map f (take k es)) → new ≡ with_spot (with_spot now a) b → new ≡ covering e (xs ++ flat_map f (take (k + 1) es))
covering_two f es k d e xs a b now new low two before put =
    let old = flat_map f (take k es) in
    put ∙ ap (λ n. with_spot (with_spot n a) b) before ∙ sym (covering_append e (xs ++ old) (a ∷ b ∷ []))
    ∙ ap (covering e) (append_assoc xs old (a ∷ b ∷ []) ∙ ap (λ ys. xs ++ ys) (ap (λ ys. old ++ ys) (sym two) ∙ sym (part_more f es k d low)))

-- the parts of a line of the drawing, in groups
pub head_parts : (h a s b c d e : List ℕ) → h ++ (a ++ (s ++ (b ++ (s ++ (c ++ (s ++ (d ++ e))))))) ≡ h ++ ((a ++ (s ++ (b ++ (s ++ (c ++ (s ++ d)))))) ++ e)
head_parts h a s b c d e = simp append_assoc refl

pub cell_parts : (old h l s a b c d e f z : List ℕ) → (old ++ ((h ++ l) ++ (a ++ (s ++ (b ++ (l ++ (c ++ (s ++ d)))))))) ++ (l ++ (e ++ (s ++ (f ++ z))))
    ≡ old ++ (h ++ (((l ++ (a ++ (s ++ b))) ++ ((l ++ (c ++ (s ++ d))) ++ ((l ++ (e ++ (s ++ f))) ++ []))) ++ z))
cell_parts old h l s a b c d e f z = simp (append_assoc, append-nil) refl

pub line_parts : (h a s b l c d z : List ℕ) → h ++ (a ++ (s ++ (b ++ (l ++ (c ++ (s ++ (d ++ z))))))) ≡ h ++ ((a ++ (s ++ b)) ++ (l ++ ((c ++ (s ++ d)) ++ z)))
line_parts h a s b l c d z = simp append_assoc refl

pub circle_parts : (old h a o b s c d z : List ℕ) → (old ++ h) ++ (a ++ (o ++ (b ++ (s ++ (c ++ (o ++ (d ++ z))))))) ≡ old ++ (h ++ ((a ++ (o ++ b)) ++ (s ++ ((c ++ (o ++ d)) ++ z))))
circle_parts old h a o b s c d z = simp append_assoc refl

-- five parts of a text, one after the other
pub five_parts : (old one two three four five a b c d e : List ℕ) → a ≡ old ++ one → b ≡ a ++ two → c ≡ b ++ three → d ≡ c ++ four → e ≡ d ++ five
    → e ≡ old ++ (one ++ (two ++ (three ++ (four ++ five))))
five_parts old one two three four five a b c d e ea eb ec ed ee =
    ee ∙ ap (λ t. t ++ five) (ed ∙ ap (λ t. t ++ four) (ec ∙ ap (λ t. t ++ three) (eb ∙ ap (λ t. t ++ two) ea)))
    ∙ append_assoc (((old ++ one) ++ two) ++ three) four five ∙ append_assoc ((old ++ one) ++ two) three (four ++ five)
    ∙ append_assoc (old ++ one) two (three ++ (four ++ five)) ∙ append_assoc old one (two ++ (three ++ (four ++ five)))
