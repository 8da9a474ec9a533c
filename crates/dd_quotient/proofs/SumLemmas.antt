-- Two lists compared: their sums where one is below the other at each place, and whether they are equal.
use Rattle.std.proofs.Common.{◌≡◌, ℕ, suc, ◌+◌, ◌*◌, ◌<◌, ◌≤◌, List, [], ◌∷◌, length, get_or, true, false, refl, sym, ◌∙◌, ⊎_elim, arith}
use Rattle.std.specs.Str.{bytes_eq}
use Rattle.std.proofs.lemmas.Slice.Eq.{bytes_eq-Decides}
use Rattle.std.proofs.lemmas.Bool.{cases_lt}

abbrev pub total : List ℕ → ℕ
total [] = 0
total (x ∷ xs) = x + total xs

-- no place of xs is above that of ys
abbrev pub IsUnder : List ℕ → List ℕ → Type 0
IsUnder xs ys = (i : ℕ) → i < length xs → get_or xs i 0 ≤ get_or ys i 0

under-rest : (x y : ℕ) (xs ys : List ℕ) → IsUnder (x ∷ xs) (y ∷ ys) → IsUnder xs ys
under-rest x y xs ys h i below = h (suc i) (omega arith)

total-le : (xs ys : List ℕ) → length xs ≡ length ys → IsUnder xs ys → total xs ≤ total ys
total-le [] ys e h = omega arith
total-le (x ∷ xs) [] e h = absurd (omega arith)
total-le (x ∷ xs) (y ∷ ys) e h =
    let first : x ≤ y = h 0 (omega arith) in
    let rest = total-le xs ys (omega arith) (under-rest x y xs ys h) in
    omega arith

total-same : (xs ys : List ℕ) → length xs ≡ length ys → IsUnder xs ys → total ys ≤ total xs → ys ≡ xs
total-same [] [] e h t = refl
total-same [] (y ∷ ys) e h t = absurd (omega arith)
total-same (x ∷ xs) [] e h t = absurd (omega arith)
total-same (x ∷ xs) (y ∷ ys) e h t =
    let first : x ≤ y = h 0 (omega arith) in
    let rest = total-le xs ys (omega arith) (under-rest x y xs ys h) in
    let here : y ≡ x = omega arith in
    let there : ys ≡ xs = total-same xs ys (omega arith) (under-rest x y xs ys h) (omega arith) in
    rw here (rw there refl)

-- lists that differ have sums that differ
pub total-lt : (xs ys : List ℕ) → length xs ≡ length ys → IsUnder xs ys → (ys ≡ xs → ⊥) → total xs < total ys
total-lt xs ys e h other =
    ⊎_elim
    (λ below. below)
    (λ above. absurd (other (total-same xs ys e h above)))
    (cases_lt (total xs) (total ys))

pub total-bound : (xs : List ℕ) (m : ℕ) → ((i : ℕ) → i < length xs → get_or xs i 0 ≤ m) → total xs ≤ length xs * m
total-bound [] m h = omega arith
total-bound (x ∷ xs) m h =
    let first : x ≤ m = h 0 (omega arith) in
    let rest = total-bound xs m (λ i below. h (suc i) (omega arith)) in
    let more : suc (length xs) * m ≡ m + length xs * m = omega arith in
    omega (arith, first, rest, more)

-- what a test of two slices says of the lists behind them
pub lists_equal : (a b xs ys : List ℕ) → a ≡ xs → b ≡ ys → bytes_eq a b ≡ true → xs ≡ ys
lists_equal a b xs ys first second h = sym first ∙ (bytes_eq-Decides a b).0 h ∙ second

pub lists_differ : (a b xs ys : List ℕ) → a ≡ xs → b ≡ ys → bytes_eq a b ≡ false → xs ≡ ys → ⊥
lists_differ a b xs ys first second h same =
    let yes = (bytes_eq-Decides a b).1 (first ∙ same ∙ sym second) in
    absurd (cc)
