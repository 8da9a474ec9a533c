-- The tiling by squares and octagons: three chambers.
use Rattle.std.proofs.Common.{◌≡◌, ◌≢◌, ◌⊎◌, ℕ, ◌<◌, ◌≤◌, List, [], ◌∷◌, ◌++◌, drop, length, refl, sym, ap, ◌∙◌, subst, inl, inr, ⊎_elim, arith}
use Rattle.std.proofs.lemmas.Bool.{cases_lt}
use Rattle.std.specs.Ordering.{nat_cmp, ordering_then}
use Rattle.std.specs.Cmp.Lexicographic.{slice_cmp}
use Rattle.std.specs.declared.cmp.Ordering.TheVariants.{Less, Greater}
use Rattle.std.specs.List.{flat_map}
use Rattle.dd_model.specs.declared.index.Index.{Index}
use Rattle.dd_model.specs.declared.index.Index.TheVariants.{Zero, One, Two}
use Rattle.dd_model.specs.declared.pair.Pair.{Pair}
use Rattle.dd_model.specs.declared.pair.Pair.TheVariants.{Tile, Vertex, Edge}
use Rattle.dd_model.specs.Symbol.{Symbol, IsTable, IsSymbol, IsInvolution, IsChamber, HasDegree, item, op, operation}
use Rattle.dd_model.specs.Connected.{Connected, IsReached}
use Rattle.dd_model.specs.Isomorphic.{IsIsomorphism}
use Rattle.dd_model.specs.Code.{count_from, images, code, code_cmp, Least}
use Rattle.dd_model.specs.Flat.{Flat}
use Rattle.dd_model.specs.Minimal.{Minimal, Alike}
use Rattle.dd_model.specs.Worked.{truncated_squares}
use Rattle.dd_model.proofs.FixedMaps.{same_by_fixed_map}
use Rattle.dd_model.proofs.Numbers.{by_three}
use Rattle.dd_model.proofs.Orders.{nat_cmp-less}

involution : (i : Index) → IsInvolution truncated_squares i
involution i = record {
  within = λ d h. by_three (λ x. IsChamber truncated_squares (op truncated_squares i x)) (inside i).0 (inside i).1 (inside i).2 d h.0 h.1;
  involutive = λ d h. by_three (λ x. op truncated_squares i (op truncated_squares i x) ≡ x) (back i).0 (back i).1 (back i).2 d h.0 h.1;
} where
  inside : (i : Index) → IsChamber truncated_squares (op truncated_squares i 1) × IsChamber truncated_squares (op truncated_squares i 2) × IsChamber truncated_squares (op truncated_squares i 3)
  inside Zero = ((omega arith, omega arith), (omega arith, omega arith), (omega arith, omega arith))
  inside One = ((omega arith, omega arith), (omega arith, omega arith), (omega arith, omega arith))
  inside Two = ((omega arith, omega arith), (omega arith, omega arith), (omega arith, omega arith))

  back : (i : Index) → (op truncated_squares i (op truncated_squares i 1) ≡ 1) × (op truncated_squares i (op truncated_squares i 2) ≡ 2) × (op truncated_squares i (op truncated_squares i 3) ≡ 3)
  back Zero = (refl, refl, refl)
  back One = (refl, refl, refl)
  back Two = (refl, refl, refl)

pub is_table : IsTable truncated_squares
is_table = record {
  chambers = omega arith;
  lengths = λ i. elim i as (λ j. length (operation truncated_squares j) ≡ 3) [ Zero ↦ refl | One ↦ refl | Two ↦ refl ];
  m01_length = refl;
  m12_length = refl;
  involutions = involution;
}

degrees : (p : Pair) → HasDegree truncated_squares p 1 × HasDegree truncated_squares p 2 × HasDegree truncated_squares p 3
degrees Tile = (record { positive = omega arith; along_first = refl; along_second = refl; turns = refl }, record { positive = omega arith; along_first = refl; along_second = refl; turns = refl }, record { positive = omega arith; along_first = refl; along_second = refl; turns = refl })
degrees Vertex = (record { positive = omega arith; along_first = refl; along_second = refl; turns = refl }, record { positive = omega arith; along_first = refl; along_second = refl; turns = refl }, record { positive = omega arith; along_first = refl; along_second = refl; turns = refl })
degrees Edge = (record { positive = omega arith; along_first = refl; along_second = refl; turns = refl }, record { positive = omega arith; along_first = refl; along_second = refl; turns = refl }, record { positive = omega arith; along_first = refl; along_second = refl; turns = refl })

pub is_symbol : IsSymbol truncated_squares
is_symbol = record {
  table = is_table;
  degrees = λ p d h. by_three (HasDegree truncated_squares p) (degrees p).0 (degrees p).1 (degrees p).2 d h.0 h.1;
}

pub connected : Connected truncated_squares
connected = λ d h. by_three (IsReached truncated_squares)
    (record { word = []; leads = refl })
    (record { word = Two ∷ []; leads = refl })
    (record { word = Two ∷ One ∷ []; leads = refl }) d h.0 h.1

pub flat : Flat truncated_squares
flat = refl

pub minimal : Minimal truncated_squares
minimal d e hd he = by_three (λ x. Alike truncated_squares x e → x ≡ e)
    (by_three (λ y. Alike truncated_squares 1 y → 1 ≡ y) (λ a. refl) (λ a. let x = (a []).0 in cc) (λ a. let x = (a []).0 in cc) e he.0 he.1)
    (by_three (λ y. Alike truncated_squares 2 y → 2 ≡ y) (λ a. let x = (a []).0 in cc) (λ a. refl) (λ a. let x = (a (Two ∷ [])).0 in cc) e he.0 he.1)
    (by_three (λ y. Alike truncated_squares 3 y → 3 ≡ y) (λ a. let x = (a []).0 in cc) (λ a. let x = (a (Two ∷ [])).0 in cc) (λ a. refl) e he.0 he.1) d hd.0 hd.1

less_at_second : (y : ℕ) (xs ys : List ℕ) → 1 < y → slice_cmp nat_cmp (1 ∷ 1 ∷ xs) (1 ∷ y ∷ ys) ≡ Less
less_at_second y xs ys h = ap (λ o. ordering_then o (slice_cmp nat_cmp xs ys)) (nat_cmp-less 1 y h)

less_at_third : (z : ℕ) (xs ys : List ℕ) → 2 < z → slice_cmp nat_cmp (1 ∷ 1 ∷ 2 ∷ xs) (1 ∷ 1 ∷ z ∷ ys) ≡ Less
less_at_third z xs ys h = ap (λ o. ordering_then o (slice_cmp nat_cmp xs ys)) (nat_cmp-less 2 z h)

-- in each other numbering an image of chamber 1 is larger
abbrev IsLarger : Symbol → Type 0
IsLarger t = (1 < op t One 1) ⊎ ((op t One 1 ≡ 1) × (2 < op t Two 1))

later_images : (x y z : ℕ) (xs ys : List ℕ) → x ≡ 1 → (1 < y) ⊎ ((y ≡ 1) × (2 < z)) → slice_cmp nat_cmp (1 ∷ 1 ∷ 2 ∷ xs) (x ∷ y ∷ z ∷ ys) ≡ Less
later_images x y z xs ys first (inl h) = ap (λ k. slice_cmp nat_cmp (1 ∷ 1 ∷ 2 ∷ xs) (k ∷ y ∷ z ∷ ys)) first ∙ less_at_second y (2 ∷ xs) (z ∷ ys) h
later_images x y z xs ys first (inr (second, h)) =
    ap (λ k. slice_cmp nat_cmp (1 ∷ 1 ∷ 2 ∷ xs) (k ∷ y ∷ z ∷ ys)) first
    ∙ ap (λ k. slice_cmp nat_cmp (1 ∷ 1 ∷ 2 ∷ xs) (1 ∷ k ∷ z ∷ ys)) second
    ∙ less_at_third z xs ys h

later : (t : Symbol) → t.size ≡ 3 → op t Zero 1 ≡ 1 → IsLarger t → code_cmp truncated_squares t ≡ Less
later t size zero_image larger =
    ap (λ n. ordering_then (nat_cmp 3 n) (slice_cmp nat_cmp (code truncated_squares) (flat_map (images t) (count_from 1 n) ++ t.m01 ++ t.m12))) size
    ∙ later_images (op t Zero 1) (op t One 1) (op t Two 1) (drop 3 (code truncated_squares)) (drop 3 (flat_map (images t) (count_from 1 3) ++ t.m01 ++ t.m12)) zero_image larger

pub one : IsChamber truncated_squares 1
one = (omega arith, omega arith)

pub two : IsChamber truncated_squares 2
two = (omega arith, omega arith)

pub three : IsChamber truncated_squares 3
three = (omega arith, omega arith)

-- different chambers have different images
apart : (t : Symbol) (f : List ℕ) → IsIsomorphism truncated_squares t f → (d e : ℕ) → IsChamber truncated_squares d → IsChamber truncated_squares e → item f d ≡ item f e → d ≡ e
apart t f iso d e hd he same =
    let left = iso.bijection.left in
    sym (left.undone d hd.0 hd.1) ∙ ap (item iso.bijection.inverse) same ∙ left.undone e he.0 he.1

-- an image other than 1
above_one : (t : Symbol) (f : List ℕ) → IsIsomorphism truncated_squares t f → (d e : ℕ) → IsChamber truncated_squares d → IsChamber truncated_squares e
    → item f e ≡ 1 → (d ≡ e → ⊥) → 1 < item f d
above_one t f iso d e hd he here other =
    let w = (iso.morphism.within d hd).0 in
    ⊎_elim (λ low. low) (λ high. let same : item f d ≡ item f e = omega (arith, w, high, here) in absurd (other (apart t f iso d e hd he same))) (cases_lt 1 (item f d))

-- the image of the chamber of the squares is 1, so either the other two stay too, or they change places
squares_first : (t : Symbol) (f : List ℕ) → IsTable t → IsIsomorphism truncated_squares t f → item f 1 ≡ 1 → (truncated_squares ≡ t) ⊎ IsLarger t
squares_first t f it iso e =
    let size : t.size ≡ 3 = iso.size in
    let m = iso.morphism in
    let one_image : op t One 1 ≡ 1 = ap (op t One) (sym e) ∙ sym (m.op One 1 one) ∙ e in
    let two_image : op t Two 1 ≡ item f 2 = ap (op t Two) (sym e) ∙ sym (m.op Two 1 one) in
    let second = above_one t f iso 2 1 two one e (λ x. omega (arith, x)) in
    let third = above_one t f iso 3 1 three one e (λ x. omega (arith, x)) in
    let third_within = (m.within 3 three).1 in
    ⊎_elim
    (λ moved. inr (inr (one_image, subst (λ x. 2 < x) (sym two_image) moved)))
    (λ stayed.
    let two_stays : item f 2 ≡ 2 = omega (arith, second, stayed) in
    let three_stays : item f 3 ≡ 3 =
    ⊎_elim
    (λ h. omega (arith, h, third_within, size))
    (λ h. let same : item f 3 ≡ item f 2 = omega (arith, third, h, two_stays) in let x = apart t f iso 3 2 three two same in absurd (omega (arith, x)))
    (cases_lt 2 (item f 3)) in
    inl (same_by_fixed_map truncated_squares t f is_table it iso (λ d h. by_three (λ x. item f x ≡ x) e two_stays three_stays d h.0 h.1)))
    (cases_lt 2 (item f 2))

-- some chamber has the image 1
same_or_larger : (t : Symbol) (f : List ℕ) → IsTable t → IsIsomorphism truncated_squares t f → (d : ℕ) → 1 ≤ d → d ≤ 3 → item f d ≡ 1 → (truncated_squares ≡ t) ⊎ IsLarger t
same_or_larger t f it iso =
    let m = iso.morphism in
    by_three (λ d. item f d ≡ 1 → (truncated_squares ≡ t) ⊎ IsLarger t)
    (λ e. squares_first t f it iso e)
    (λ e.
    let image : op t One 1 ≡ item f 3 = ap (op t One) (sym e) ∙ sym (m.op One 2 two) in
    inr (inl (subst (λ x. 1 < x) (sym image) (above_one t f iso 3 2 three two e (λ x. omega (arith, x))))))
    (λ e.
    let image : op t One 1 ≡ item f 2 = ap (op t One) (sym e) ∙ sym (m.op One 3 three) in
    inr (inl (subst (λ x. 1 < x) (sym image) (above_one t f iso 2 3 two three e (λ x. omega (arith, x))))))

-- the first involution fixes each chamber
fixed_by_zero : (t : Symbol) (f : List ℕ) → IsIsomorphism truncated_squares t f → (d : ℕ) → 1 ≤ d → d ≤ 3 → op t Zero (item f d) ≡ item f d
fixed_by_zero t f iso =
    let m = iso.morphism in
    by_three (λ d. op t Zero (item f d) ≡ item f d) (sym (m.op Zero 1 one)) (sym (m.op Zero 2 two)) (sym (m.op Zero 3 three))

pub least : Least truncated_squares
least t it (f, iso) =
    let right = iso.bijection.right in
    let d = item iso.bijection.inverse 1 in
    let w = right.within 1 one.0 one.1 in
    let here : item f d ≡ 1 = right.undone 1 one.0 one.1 in
    let zero_image : op t Zero 1 ≡ 1 = ap (op t Zero) (sym here) ∙ fixed_by_zero t f iso d w.0 w.1 ∙ here in
    ⊎_elim
    (λ same. subst (λ u. code_cmp truncated_squares u ≢ Greater) same (λ e. (cc)))
    (λ larger. let e = later t iso.size zero_image larger in λ g. (cc))
    (same_or_larger t f it.table iso d w.0 w.1 here)
