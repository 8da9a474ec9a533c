-- The numbers from k on.
use Rattle.std.proofs.Common.{◌≡◌, ℕ, zero, suc, ◌+◌, ◌-◌, ◌<◌, ◌≤◌, [], ◌∷◌, ◌++◌, map, length, get_or, refl, sym, ap, ◌∙◌, subst, arith}
use Rattle.std.proofs.lemmas.List.{get_or-map, get_or_default, map-append}
use Rattle.std.proofs.lemmas.List.Elements.{Contains-get_or}
use Rattle.std.specs.List.{Contains}
use Rattle.std.specs.List.Sorted.{IsStrictlyIncreasing}
use Rattle.dd_model.specs.Symbol.{item}
use Rattle.dd_model.specs.Code.{count_from}

pub length-count_from : (k n : ℕ) → length (count_from k n) ≡ n
length-count_from k zero = refl
length-count_from k (suc n) = ap suc (length-count_from (k + 1) n)

pub get_or-count_from : (k n i : ℕ) → i < n → get_or (count_from k n) i 0 ≡ k + i
get_or-count_from k zero i h = omega arith
get_or-count_from k (suc n) zero h = omega arith
get_or-count_from k (suc n) (suc i) h = get_or-count_from (k + 1) n i (omega arith) ∙ omega arith

-- the identity of 1 to n
pub item-count_from : (n d : ℕ) → 1 ≤ d → d ≤ n → item (count_from 1 n) d ≡ d
item-count_from n d low high = get_or-count_from 1 n (d - 1) (omega arith) ∙ omega arith

-- ## One more

pub count_from-more : (k n : ℕ) → count_from k (n + 1) ≡ count_from k n ++ (k + n) ∷ []
count_from-more k zero = let e : k ≡ k + zero = omega arith in ap (λ m. m ∷ []) e
count_from-more k (suc n) =
    let e : suc n + 1 ≡ suc (n + 1) = omega arith in
    let same : k + 1 + n ≡ k + suc n = omega arith in
    ap (count_from k) e ∙ ap (λ xs. k ∷ xs) (count_from-more (k + 1) n ∙ ap (λ m. count_from (k + 1) n ++ m ∷ []) same)

-- the values at one number more
pub map-count_from-more : (f : ℕ → ℕ) (n : ℕ) → map f (count_from 1 (n + 1)) ≡ map f (count_from 1 n) ++ f (n + 1) ∷ []
map-count_from-more f n =
    let e : 1 + n ≡ n + 1 = omega arith in
    ap (map f) (count_from-more 1 n) ∙ map-append f (count_from 1 n) ((1 + n) ∷ []) ∙ ap (λ x. map f (count_from 1 n) ++ f x ∷ []) e

-- the value at one of the numbers
pub get_or-map-count_from : (f : ℕ → ℕ) (k n i : ℕ) → i < n → get_or (map f (count_from k n)) i 0 ≡ f (k + i)
get_or-map-count_from f k n i h =
    let size = length-count_from k n in
    get_or-map f (count_from k n) i 0 0 (omega arith) ∙ ap f (get_or-count_from k n i h)

-- the item of a chamber in a list that is made of the chambers
pub item-map-count_from : (f : ℕ → ℕ) (n d : ℕ) → 1 ≤ d → d ≤ n → item (map f (count_from 1 n)) d ≡ f d
item-map-count_from f n d low high =
    let e : 1 + (d - 1) ≡ d = omega arith in
    get_or-map-count_from f 1 n (d - 1) (omega arith) ∙ ap f e

-- ## Members

pub within_count : (k n x : ℕ) → Contains (count_from k n) x → (k ≤ x) × (x < k + n)
within_count k n x (i, below, e) =
    let size = length-count_from k n in
    let at : k + i ≡ x = sym (get_or-count_from k n i (omega arith)) ∙ sym (get_or_default (count_from k n) i x 0 below) ∙ e in
    (omega arith, omega arith)

pub count_contains : (k n x : ℕ) → k ≤ x → x < k + n → Contains (count_from k n) x
count_contains k n x low high =
    let size = length-count_from k n in
    let at : x ≡ k + (x - k) = omega arith in
    subst (Contains (count_from k n)) (get_or-count_from k n (x - k) (omega arith) ∙ sym at)
    (Contains-get_or (count_from k n) (x - k) 0 (omega arith))

pub increasing-count_from : (k n : ℕ) → IsStrictlyIncreasing (count_from k n)
increasing-count_from k n i below =
    let size = length-count_from k n in
    let here = get_or-count_from k n i (omega arith) in
    let next = get_or-count_from k n (i + 1) (omega arith) in
    omega arith
