-- A list in which one item was changed.
use Rattle.std.proofs.Common.{◌≡◌, ◌≢◌, ℕ, zero, suc, ◌+◌, ◌-◌, ◌<◌, ◌==◌, Bool, true, false, true≢false, List, [], ◌∷◌, ◌++◌, length, map, sum, sum_by, All, slice_set, slice_get, slice_index_or, Some, refl, sym, ◌∙◌, ap, arith}
use Rattle.std.proofs.lemmas.Bool.Decides.{nat_tests}
use Rattle.std.proofs.lemmas.List.Sums.{sum_by-set, sum-map}
use Rattle.std.proofs.lemmas.List.{length-map}
use Rattle.std.proofs.lemmas.List.Elements.{All-append, All-cons}
use Rattle.dd_steal_deques.specs.Numbers.{times}

pub map_set_at : {A B : Type 0} (f : A → B) (xs : List A) (i : ℕ) (y : A) (d : B) → i < length xs → slice_index_or (map f (slice_set xs i y)) i d ≡ f y
map_set_at f [] i y d lt = absurd (omega (arith, lt))
map_set_at f (a ∷ xs) zero y d lt = refl
map_set_at f (a ∷ xs) (suc i) y d lt = map_set_at f xs i y d (omega (arith, lt))

pub map_set_else : {A B : Type 0} (f : A → B) (xs : List A) (i : ℕ) (y : A) (k : ℕ) (d : B) → k ≢ i → slice_index_or (map f (slice_set xs i y)) k d ≡ slice_index_or (map f xs) k d
map_set_else f [] i y k d apart = refl
map_set_else f (a ∷ xs) zero y zero d apart = absurd (apart refl)
map_set_else f (a ∷ xs) zero y (suc k) d apart = refl
map_set_else f (a ∷ xs) (suc i) y zero d apart = refl
map_set_else f (a ∷ xs) (suc i) y (suc k) d apart = map_set_else f xs i y k d (λ is. apart (ap suc is))

pub map_at : {A B : Type 0} (f : A → B) (xs : List A) (i : ℕ) (x : A) (d : B) → i < length xs → x ≡ slice_index_or xs i x → slice_index_or (map f xs) i d ≡ f x
map_at f [] i x d lt at = absurd (omega (arith, lt))
map_at f (a ∷ xs) zero x d lt at = ap f (sym at)
map_at f (a ∷ xs) (suc i) x d lt at = map_at f xs i x d (omega (arith, lt)) at

pub map_get : {A B : Type 0} (f : A → B) (xs : List A) (i : ℕ) (x : A) → i < length xs → x ≡ slice_index_or xs i x → slice_get (map f xs) i ≡ Some (f x)
map_get f [] i x lt at = absurd (omega (arith, lt))
map_get f (a ∷ xs) zero x lt at = ap (λ y. Some (f y)) (sym at)
map_get f (a ∷ xs) (suc i) x lt at = map_get f xs i x (omega (arith, lt)) at

pub got_within : {A B : Type 0} (f : A → B) (xs : List A) (i : ℕ) (b : B) → slice_get (map f xs) i ≡ Some b → i < length xs
got_within f [] i b got = absurd (cc got)
got_within f (a ∷ xs) zero b got = omega arith
got_within f (a ∷ xs) (suc i) b got = omega (arith, got_within f xs i b got)

pub sum_set : {A : Type 0} (f : A → ℕ) (xs : List A) (i : ℕ) (x y : A) → i < length xs → x ≡ slice_index_or xs i x → sum_by f (slice_set xs i y) + f x ≡ sum_by f xs + f y
sum_set f xs i x y lt at =
    let whole = sum_by-set f xs i y x lt in
    let here : f x ≡ f (slice_index_or xs i x) = ap f at in
    omega (arith, whole, here)

-- where the change takes one away
pub less_at : {A : Type 0} (f : A → ℕ) (xs : List A) (from : ℕ) (x y : A) → 0 < from → from - 1 < length xs → x ≡ slice_index_or xs (from - 1) x → f y ≡ f x - 1
    → (k : ℕ) → slice_index_or (map f (slice_set xs (from - 1) y)) k 0 ≡ slice_index_or (map f xs) k 0 - times (k + 1) (from ∷ [])
less_at f xs from x y counted lt at less k = less_by (k + 1 == from) refl
  where
    less_by : (same : Bool) → (k + 1 == from) ≡ same → slice_index_or (map f (slice_set xs (from - 1) y)) k 0 ≡ slice_index_or (map f xs) k 0 - times (k + 1) (from ∷ [])
    less_by true is =
        let here : k ≡ from - 1 = grind (arith, nat_tests, is) in
        let one : times (k + 1) (from ∷ []) ≡ 1 = grind (arith, nat_tests, is) in
        let new : slice_index_or (map f (slice_set xs (from - 1) y)) k 0 ≡ f y = ap (λ j. slice_index_or (map f (slice_set xs (from - 1) y)) j 0) here ∙ map_set_at f xs (from - 1) y 0 lt in
        let old : slice_index_or (map f xs) k 0 ≡ f x = ap (λ j. slice_index_or (map f xs) j 0) here ∙ map_at f xs (from - 1) x 0 lt at in
        omega (arith, one, new, old, less)
    less_by false is =
        let none : times (k + 1) (from ∷ []) ≡ 0 = grind (arith, nat_tests, is) in
        let apart = map_set_else f xs (from - 1) y k 0 (λ here. true≢false (grind (arith, nat_tests, is, here, counted))) in
        omega (arith, none, apart)

-- what is seen of two lists alike adds up alike
pub same_sum : {A : Type 0} (f : A → ℕ) (xs ys : List A) → map f xs ≡ map f ys → sum_by f xs ≡ sum_by f ys
same_sum f xs ys same = sym (sum-map f xs) ∙ ap sum same ∙ sum-map f ys

pub map_map : {A B C : Type 0} (g : B → C) (f : A → B) (xs : List A) → map g (map f xs) ≡ map (λ x. g (f x)) xs
map_map g f [] = refl
map_map g f (x ∷ xs) = ap (λ ys. g (f x) ∷ ys) (map_map g f xs)

pub same_length : {A B : Type 0} (f : A → B) (xs ys : List A) → map f xs ≡ map f ys → length xs ≡ length ys
same_length f xs ys same = sym (length-map xs f) ∙ ap length same ∙ length-map ys f

pub all_head : {A : Type 0} (P : A → Type 0) (x : A) (xs : List A) → All P (x ∷ xs) → P x
all_head P x xs all = all 0 x (omega arith)

pub all_tail : {A : Type 0} (P : A → Type 0) (x : A) (xs : List A) → All P (x ∷ xs) → All P xs
all_tail P x xs all = λ k d lt. all (suc k) d (omega (arith, lt))

-- where the change adds one
pub more_at : {A : Type 0} (f : A → ℕ) (xs : List A) (i : ℕ) (x y : A) → i < length xs → x ≡ slice_index_or xs i x → f y ≡ f x + 1
    → (k : ℕ) → slice_index_or (map f (slice_set xs i y)) k 0 ≡ slice_index_or (map f xs) k 0 + times (k + 1) ((i + 1) ∷ [])
more_at f xs i x y lt at more k = more_by (k + 1 == i + 1) refl
  where
    more_by : (same : Bool) → (k + 1 == i + 1) ≡ same → slice_index_or (map f (slice_set xs i y)) k 0 ≡ slice_index_or (map f xs) k 0 + times (k + 1) ((i + 1) ∷ [])
    more_by true is =
        let here : k ≡ i = grind (arith, nat_tests, is) in
        let one : times (k + 1) ((i + 1) ∷ []) ≡ 1 = grind (arith, nat_tests, is) in
        let new : slice_index_or (map f (slice_set xs i y)) k 0 ≡ f y = ap (λ j. slice_index_or (map f (slice_set xs i y)) j 0) here ∙ map_set_at f xs i y 0 lt in
        let old : slice_index_or (map f xs) k 0 ≡ f x = ap (λ j. slice_index_or (map f xs) j 0) here ∙ map_at f xs i x 0 lt at in
        omega (arith, one, new, old, more)
    more_by false is =
        let none : times (k + 1) ((i + 1) ∷ []) ≡ 0 = grind (arith, nat_tests, is) in
        let apart = map_set_else f xs i y k 0 (λ here. true≢false (grind (arith, nat_tests, is, here))) in
        omega (arith, none, apart)

-- what is seen of two lists alike is also seen alike through it
pub map_through : {A B C : Type 0} (g : B → C) (f : A → B) (xs ys : List A) → map f xs ≡ map f ys → map (λ x. g (f x)) xs ≡ map (λ x. g (f x)) ys
map_through g f xs ys same = sym (map_map g f xs) ∙ ap (map g) same ∙ map_map g f ys

pub all_snoc : {A : Type 0} (P : A → Type 0) (xs : List A) (y : A) → All P xs → P y → All P (xs ++ y ∷ [])
all_snoc P xs y all last = All-append P xs (y ∷ []) all (All-cons P y [] last (λ k d lt. absurd (omega (arith, lt))))

pub item_at : {A : Type 0} (xs : List A) (k : ℕ) → k < length xs → (x : A) × (x ≡ slice_index_or xs k x)
item_at [] k lt = absurd (omega (arith, lt))
item_at (x ∷ xs) zero lt = (x, refl)
item_at (x ∷ xs) (suc k) lt = item_at xs k (omega (arith, lt))
