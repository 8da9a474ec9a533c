-- Lists: their members, and lists of numbers.
use Rattle.std.proofs.Common.{◌≡◌, ℕ, zero, suc, ◌+◌, ◌-◌, ◌<◌, ◌≤◌, ◌⊎◌, List, [], ◌∷◌, length, get_or, set, map, replicate, refl, sym, ap, ◌∙◌, subst, inl, inr, ⊎_elim, arith}
use Rattle.std.proofs.lemmas.List.{get_or-map, get_or-replicate}
use Rattle.std.proofs.lemmas.List.Elements.{All-from_recursion, All-contains}
use Rattle.std.specs.List.{Contains, AllByRecursion}
use Rattle.dd_model.specs.Symbol.{item}

-- ## Members

pub Contains-none : {A : Type 0} (x : A) → Contains [] x → ⊥
Contains-none x (k, h, e) = absurd (omega arith)

pub Contains-head : {A : Type 0} (x : A) (xs : List A) → Contains (x ∷ xs) x
Contains-head x xs = (zero, omega arith, refl)

pub Contains-later : {A : Type 0} (x y : A) (xs : List A) → Contains xs y → Contains (x ∷ xs) y
Contains-later x y xs (k, h, e) = (suc k, omega arith, e)

pub Contains-cases : {A : Type 0} (x y : A) (xs : List A) → Contains (x ∷ xs) y → (x ≡ y) ⊎ Contains xs y
Contains-cases x y xs (zero, h, e) = inl e
Contains-cases x y xs (suc k, h, e) = inr (k, omega arith, e)

-- the member of a list of one
pub Contains-one : {A : Type 0} (x y : A) → Contains (x ∷ []) y → x ≡ y
Contains-one x y (zero, h, e) = e
Contains-one x y (suc k, h, e) = absurd (omega arith)

-- what holds of all holds of each member
pub each_of : {A : Type 0} (P : A → Type 0) (xs : List A) (x : A) → AllByRecursion P xs → Contains xs x → P x
each_of P xs x all there = All-contains P xs x (All-from_recursion P xs all) there

-- what holds of each member holds of all
pub all_from_members : {A : Type 0} (P : A → Type 0) (xs : List A) → ((x : A) → Contains xs x → P x) → AllByRecursion P xs
all_from_members P [] each = tt
all_from_members P (x ∷ xs) each = (each x (Contains-head x xs), all_from_members P xs (λ y there. each y (Contains-later x y xs there)))

pub Contains-map : {A B : Type 0} (f : A → B) (xs : List A) (x : A) → Contains xs x → Contains (map f xs) (f x)
Contains-map f [] x there = absurd (Contains-none x there)
Contains-map f (y ∷ xs) x there =
    ⊎_elim
    (λ first. subst (λ z. Contains (map f (y ∷ xs)) (f z)) first (Contains-head (f y) (map f xs)))
    (λ later. Contains-later (f y) (f x) (map f xs) (Contains-map f xs x later))
    (Contains-cases y x xs there)

-- ## Parts and values

pub cons_head : {A : Type 0} (x y : A) (xs ys : List A) → x ∷ xs ≡ y ∷ ys → x ≡ y
cons_head x y xs ys e = cc

pub cons_tail : {A : Type 0} (x y : A) (xs ys : List A) → x ∷ xs ≡ y ∷ ys → xs ≡ ys
cons_tail x y xs ys e = cc

-- two maps that make the same list are equal at each member
pub map_at : (f g : ℕ → ℕ) (xs : List ℕ) → map f xs ≡ map g xs → (x : ℕ) → Contains xs x → f x ≡ g x
map_at f g xs e x (k, h, is) =
    let a : get_or (map f xs) k 0 ≡ f (get_or xs k x) = get_or-map f xs k x 0 h in
    let b : get_or (map g xs) k 0 ≡ g (get_or xs k x) = get_or-map g xs k x 0 h in
    ap f (sym is) ∙ sym a ∙ ap (λ ys. get_or ys k 0) e ∙ b ∙ ap g is

-- at each place of a list of zeros, and past its end, is zero
pub zero_at : (n k : ℕ) → ◌≡◌ {A = ℕ} (get_or (replicate n 0) k 0) 0
zero_at zero k = refl
zero_at (suc n) zero = refl
zero_at (suc n) (suc k) = zero_at n k

-- at each place of a list of ones is one
pub ones_at : (n d : ℕ) → 1 ≤ d → d ≤ n → item (replicate n 1) d ≡ 1
ones_at n d low high = let inside : d - 1 < n = omega (arith, low, high) in get_or-replicate n (d - 1) 1 0 inside

-- what holds of each item holds of the one at a place
pub inside_of : (xs : List ℕ) (n k : ℕ) → ((d : ℕ) → 1 ≤ d → d ≤ length xs → (1 ≤ item xs d) × (item xs d ≤ n)) → k < length xs → (1 ≤ get_or xs k 0) × (get_or xs k 0 ≤ n)
inside_of xs n k all inside =
    let back : k + 1 - 1 ≡ k = omega arith in
    subst (λ j. (1 ≤ get_or xs j 0) × (get_or xs j 0 ≤ n)) back (all (k + 1) (omega arith) (omega arith))

-- a list is seen as before where an item is changed and what is seen of it is not
pub map_set_same : {A B : Type 0} (f : A → B) (xs : List A) (i : ℕ) (x y : A) → x ≡ get_or xs i x → f y ≡ f x → map f (set xs i y) ≡ map f xs
map_set_same f [] i x y at same = refl
map_set_same f (a ∷ xs) zero x y at same = ap (λ b. b ∷ map f xs) (same ∙ ap f at)
map_set_same f (a ∷ xs) (suc i) x y at same = ap (λ bs. f a ∷ bs) (map_set_same f xs i x y at same)
