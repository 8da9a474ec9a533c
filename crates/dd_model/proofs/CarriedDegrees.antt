-- Isomorphic symbols have the same degrees in another order, so they are flat together.
use Rattle.std.proofs.Common.{◌≡◌, ℕ, ◌+◌, ◌-◌, ◌*◌, ◌/◌, ◌<◌, ◌≤◌, List, map, length, get_or, sym, ap, ◌∙◌, arith}
use Rattle.std.proofs.lemmas.List.{get_or-map, length-map, get_or_default}
use Rattle.std.specs.List.{Contains, sum_by}
use Rattle.dd_model.specs.Symbol.{Symbol, IsTable, item}
use Rattle.dd_model.specs.Code.{count_from}
use Rattle.dd_model.specs.Isomorphic.{HaveLengths, IsBijection, IsIsomorphism}
use Rattle.dd_model.specs.Flat.{product, all_degrees, reciprocals, Flat}
use Rattle.dd_model.proofs.CountFrom.{length-count_from, get_or-count_from, item-count_from}
use Rattle.dd_model.proofs.Codes.{same_items}
use Rattle.dd_model.proofs.Counts.{AreApart, same_totals}

-- the item of a mapped list
item-map : (h : ℕ → ℕ) (xs : List ℕ) (d : ℕ) → 1 ≤ d → d ≤ length xs → item (map h xs) d ≡ h (item xs d)
item-map h xs d low high = get_or-map h xs (d - 1) 0 0 (omega arith)

-- a bijection sends no two chambers to one
images_apart : (n : ℕ) (f : List ℕ) → IsBijection n f → AreApart f
images_apart n f b i j low high same =
    let size = b.images in
    let at : (k : ℕ) → k < n → item b.inverse (get_or f k 0) ≡ k + 1 = λ k below.
    let place : k + 1 - 1 ≡ k = omega arith in
    ap (λ m. item b.inverse (get_or f m 0)) (sym place) ∙ b.left.undone (k + 1) (omega arith) (omega arith) in
    let first = at i (omega arith) in
    let second = at j (omega arith) in
    let equal = ap (item b.inverse) same in
    omega arith

-- each image is one of the chambers
images_within : (n : ℕ) (f : List ℕ) → IsBijection n f → (z : ℕ) → Contains f z → Contains (count_from 1 n) z
images_within n f b z (k, h, e) =
    let size = b.images in
    let place : k + 1 - 1 ≡ k = omega arith in
    let image : item f (k + 1) ≡ z = ap (λ m. get_or f m 0) place ∙ get_or_default f k 0 z h ∙ e in
    let w = b.left.within (k + 1) (omega arith) (omega arith) in
    let low : 1 ≤ z = omega (arith, w.0, image) in
    let high : z ≤ n = omega (arith, w.1, image) in
    let long = length-count_from 1 n in
    let below : z - 1 < length (count_from 1 n) = omega arith in
    (z - 1, below, get_or_default (count_from 1 n) (z - 1) z 0 below ∙ get_or-count_from 1 n (z - 1) (omega arith) ∙ omega arith)

-- A list and its renumbering have one sum and one product.
renumbered_totals : (g : ℕ → ℕ) (n : ℕ) (f xs ys : List ℕ) → IsBijection n f → length xs ≡ n → length ys ≡ n
    → ((d : ℕ) → 1 ≤ d → d ≤ n → item ys (item f d) ≡ item xs d) → (sum_by g xs ≡ sum_by g ys) × (product xs ≡ product ys)
renumbered_totals g n f xs ys b ex ey same =
    let long = length-count_from 1 n in
    let size = b.images in
    let from_xs : map (item ys) f ≡ xs =
    same_items (map (item ys) f) xs n (length-map f (item ys) ∙ size) ex (λ d low high.
    item-map (item ys) f d low (omega arith) ∙ same d low (omega arith)) in
    let from_ys : map (item ys) (count_from 1 n) ≡ ys =
    same_items (map (item ys) (count_from 1 n)) ys n (length-map (count_from 1 n) (item ys) ∙ long) ey (λ d low high.
    item-map (item ys) (count_from 1 n) d low (omega arith) ∙ ap (item ys) (item-count_from n d low (omega arith))) in
    let totals = same_totals g (item ys) f (count_from 1 n) (images_apart n f b) (images_within n f b) (size ∙ sym long) in (
      ap (sum_by g) (sym from_xs) ∙ totals.sum ∙ ap (sum_by g) from_ys,
      ap product (sym from_xs) ∙ totals.product ∙ ap product from_ys,
    )

-- The image of a flat symbol is flat.
pub flat-along : (s t : Symbol) (f : List ℕ) → IsTable s → HaveLengths t → IsIsomorphism s t f → Flat s → Flat t
flat-along s t f is ls iso flat =
    let tiles = λ (g : ℕ → ℕ). renumbered_totals g s.size f s.m01 t.m01 iso.bijection is.m01_length (ls.m01_length ∙ iso.size) (λ d low high. iso.morphism.m01 d (low, high)) in
    let vertices = λ (g : ℕ → ℕ). renumbered_totals g s.size f s.m12 t.m12 iso.bijection is.m12_length (ls.m12_length ∙ iso.size) (λ d low high. iso.morphism.m12 d (low, high)) in
    let all : all_degrees s ≡ all_degrees t =
    ap (λ m. m * product s.m12) (tiles (λ m. m)).1 ∙ ap (λ m. product t.m01 * m) (vertices (λ m. m)).1 in
    let sums : reciprocals s ≡ reciprocals t =
    ap (λ m. m + sum_by (λ x. all_degrees s / x) s.m12) (tiles (λ m. all_degrees s / m)).0
    ∙ ap (λ m. sum_by (λ x. all_degrees s / x) t.m01 + m) (vertices (λ m. all_degrees s / m)).0
    ∙ ap (λ a. sum_by (λ x. a / x) t.m01 + sum_by (λ x. a / x) t.m12) all in
    ap (λ m. 2 * m) (sym sums) ∙ flat ∙ ap (λ n. n * all_degrees s) (sym iso.size) ∙ ap (λ a. t.size * a) all
