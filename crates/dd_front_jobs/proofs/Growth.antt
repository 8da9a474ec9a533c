-- The numbers of a least code, beside the greatest before them.
use Rattle.std.proofs.Common.{◌≡◌, ℕ, zero, suc, ◌+◌, ◌*◌, ◌<◌, ◌≤◌, max, List, [], ◌∷◌, ◌++◌, length, get_or, take, refl, sym, ap, ◌∙◌, arith}
use Rattle.std.proofs.lemmas.List.{get_or_append_left, append_assoc, take-append-le}
use Rattle.dd_model.specs.Symbol.{Symbol}
use Rattle.dd_model.specs.Lists.{Begins}
use Rattle.dd_model.specs.Code.{code, all_images}
use Rattle.dd_model.specs.FirstVisit.{Grows}
use Rattle.dd_model.proofs.Codes.{length-flat_images}
use Rattle.dd_model.proofs.LeastForms.{least_first_visit}
use Rattle.dd_front_jobs.specs.Orderly.{IsOrderly}
use Rattle.dd_front_jobs.specs.Under.{IsUnder, next_number}
use Rattle.dd_front_jobs.specs.FirstVisit.{greatest}

pub grows_at : (m : ℕ) (xs : List ℕ) (t : ℕ) → 1 ≤ m → Grows m xs → t < length xs → get_or xs t 0 ≤ max m (greatest (take t xs)) + 1
grows_at m [] t pos grows low = absurd (omega arith)
grows_at m (x ∷ xs) zero pos grows low = let first = grows.0 in omega arith
grows_at m (x ∷ xs) (suc t) pos grows low = let rest = grows_at (max m x) xs t (omega arith) grows.1 (omega arith) in omega arith

pub grows_from : (m : ℕ) (xs : List ℕ) → 1 ≤ m → ((t : ℕ) → t < length xs → get_or xs t 0 ≤ max m (greatest (take t xs)) + 1) → Grows m xs
grows_from m [] pos each = tt
grows_from m (x ∷ xs) pos each =
    let first = each 0 (omega arith) in
    (omega (arith, first), grows_from (max m x) xs (omega arith) (λ t low. let later = each (suc t) (omega arith) in omega (arith, later)))

pub one_le_greatest : (xs : List ℕ) → 1 ≤ greatest xs
one_le_greatest [] = omega arith
one_le_greatest (x ∷ xs) = let rest = one_le_greatest xs in omega arith

-- each number of a least code is at most one more than the greatest of 1 and the numbers before it
pub code_grows : (s : Symbol) → IsOrderly s → (t : ℕ) → t < 3 * s.size → get_or (code s) t 0 ≤ greatest (take t (code s)) + 1
code_grows s is t low =
    let images = all_images s in
    let rest = s.m01 ++ s.m12 in
    let size : length images ≡ 3 * s.size = length-flat_images s 1 s.size in
    let whole : code s ≡ images ++ rest = append_assoc images s.m01 s.m12 in
    let here : get_or (code s) t 0 ≡ get_or images t 0 = ap (λ xs. get_or xs t 0) whole ∙ get_or_append_left images rest 0 t (omega arith) in
    let front : take t (code s) ≡ take t images = ap (take t) whole ∙ take-append-le t images rest (omega arith) in
    let grows = grows_at 1 images t (omega arith) (least_first_visit s is.table is.connected is.least) (omega arith) in
    let one = one_le_greatest (take t images) in
    let same : greatest (take t (code s)) ≡ greatest (take t images) = ap greatest front in
    omega arith

pub begins_take : (xs ys : List ℕ) → Begins xs ys → take (length xs) ys ≡ xs
begins_take [] ys b = refl
begins_take (x ∷ xs) [] b = absurd b
begins_take (x ∷ xs) (y ∷ ys) b = ap (λ z. z ∷ take (length xs) ys) (sym b.0) ∙ ap (λ zs. x ∷ zs) (begins_take xs ys b.1)

-- the next number is at most one more than the greatest of 1 and the numbers of the prefix
pub next_small : (W : Symbol → Type 0) (n : ℕ) (prefix : List ℕ) (s : Symbol) → length prefix < 3 * n → IsUnder W n prefix s → next_number prefix s ≤ greatest prefix + 1
next_small W n prefix s low under =
    let size = under.size in
    let grows = code_grows s under.orderly (length prefix) (omega arith) in
    let same : greatest (take (length prefix) (code s)) ≡ greatest prefix = ap greatest (begins_take prefix (code s) under.begins) in
    omega arith

pub greatest_push : (xs : List ℕ) (x : ℕ) → greatest (xs ++ x ∷ []) ≡ max (greatest xs) x
greatest_push [] x = omega arith
greatest_push (y ∷ ys) x = let rest = greatest_push ys x in omega arith
