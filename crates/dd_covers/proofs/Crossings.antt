-- The pairs of members of a list on which two rankings disagree. Counted in both orders and modulo 4, they add up along rankings:
-- this is the sign of a permutation.
use Rattle.std.proofs.Common.{◌≡◌, ℕ, ◌+◌, ◌*◌, ◌<◌, Bool, true, false, not, cond, eqb, leb, List, [], ◌∷◌, refl, sym, ap, ◌∙◌, ⊎_elim, arith}
use Rattle.std.proofs.lemmas.Bool.{cases_lt, cases_eq, eq-eqb, ne_eqb, le-leb, lt-leb}
use Rattle.std.proofs.lemmas.List.Sums.{sum_by-cons}
use Rattle.std.specs.List.{Contains, sum_by}
use Rattle.dd_cells.proofs.CellSums.{sum_by_equal, sum_by_listed, sum_by_both, sum_by_none}

-- ## Sums over ordered pairs

abbrev pub doubly : (ℕ → ℕ → ℕ) → List ℕ → ℕ
doubly h xs = sum_by (λ x. sum_by (h x) xs) xs

pub doubly_listed : (h g : ℕ → ℕ → ℕ) (xs : List ℕ) → ((x y : ℕ) → Contains xs x → Contains xs y → h x y ≡ g x y) → doubly h xs ≡ doubly g xs
doubly_listed h g xs same =
    sum_by_listed (λ x. sum_by (h x) xs) (λ x. sum_by (g x) xs) xs (λ x hx. sum_by_listed (h x) (g x) xs (λ y hy. same x y hx hy))

pub doubly_both : (h g : ℕ → ℕ → ℕ) (xs : List ℕ) → doubly (λ x y. h x y + g x y) xs ≡ doubly h xs + doubly g xs
doubly_both h g xs =
    sum_by_equal (λ x. sum_by (λ y. h x y + g x y) xs) (λ x. sum_by (h x) xs + sum_by (g x) xs) (λ x. sum_by_both (h x) (g x) xs) xs
    ∙ sum_by_both (λ x. sum_by (h x) xs) (λ x. sum_by (g x) xs) xs

pub sums_exchanged : (h : ℕ → ℕ → ℕ) (xs ys : List ℕ) → sum_by (λ x. sum_by (h x) ys) xs ≡ sum_by (λ y. sum_by (λ x. h x y) xs) ys
sums_exchanged h [] ys = sym (sum_by_none (λ y. sum_by (λ x. h x y) []) ys (λ y _. refl))
sums_exchanged h (x ∷ xs) ys =
    sum_by-cons (λ z. sum_by (h z) ys) x xs
    ∙ ap (λ n. sum_by (h x) ys + n) (sums_exchanged h xs ys)
    ∙ sym (sum_by_both (h x) (λ y. sum_by (λ z. h z y) xs) ys)
    ∙ sum_by_equal (λ y. h x y + sum_by (λ z. h z y) xs) (λ y. sum_by (λ z. h z y) (x ∷ xs)) (λ y. sym (sum_by-cons (λ z. h z y) x xs)) ys

-- The sum is even where a pair counts alike in both orders, and no member counts with itself.
even_doubly : (h : ℕ → ℕ → ℕ) → ((x y : ℕ) → h x y ≡ h y x) → ((x : ℕ) → h x x ≡ 0) → (xs : List ℕ) → (k : ℕ) × (doubly h xs ≡ 2 * k)
even_doubly h alike own [] = (0, refl)
even_doubly h alike own (x ∷ xs) =
    let rest = even_doubly h alike own xs in
    let tail = rest.1 in
    let outer = sum_by-cons (λ y. sum_by (h y) (x ∷ xs)) x xs in
    let head = sum_by-cons (h x) x xs in
    let none = own x in
    let parts = sum_by_equal (λ y. sum_by (h y) (x ∷ xs)) (λ y. h y x + sum_by (h y) xs) (λ y. sum_by-cons (h y) x xs) xs in
    let both = sum_by_both (λ y. h y x) (λ y. sum_by (h y) xs) xs in
    let column = sum_by_equal (λ y. h y x) (h x) (λ y. alike y x) xs in
    (sum_by (h x) xs + rest.0, omega arith)

-- ## Rankings of two members

pub cond_same : (t : Bool) (z : ℕ) → cond t z z ≡ z
cond_same true z = refl
cond_same false z = refl

abbrev differ : Bool → Bool → ℕ
differ true b = cond b 0 1
differ false b = cond b 1 0

differ_none : (b : Bool) → differ b b ≡ 0
differ_none true = refl
differ_none false = refl

differ_not : (b c : Bool) → differ (not b) (not c) ≡ differ b c
differ_not true true = refl
differ_not true false = refl
differ_not false true = refl
differ_not false false = refl

differ_along : (a b c : Bool) → differ a c + (differ a b * differ b c + differ a b * differ b c) ≡ differ a b + differ b c
differ_along true true true = refl
differ_along true true false = refl
differ_along true false true = refl
differ_along true false false = refl
differ_along false true true = refl
differ_along false true false = refl
differ_along false false true = refl
differ_along false false false = refl

-- a and b are in one order, and c and d in the other
abbrev pub opposed : ℕ → ℕ → ℕ → ℕ → ℕ
opposed a b c d = cond (eqb a b) 0 (cond (eqb c d) 0 (differ (leb a b) (leb c d)))

pub opposed_first : (a b c d : ℕ) → a ≡ b → opposed a b c d ≡ 0
opposed_first a b c d e = ap (λ t. cond t 0 (cond (eqb c d) 0 (differ (leb a b) (leb c d)))) (eq-eqb a b e)

opposed_last : (a b c d : ℕ) → c ≡ d → opposed a b c d ≡ 0
opposed_last a b c d e =
    ap (λ t. cond (eqb a b) 0 (cond t 0 (differ (leb a b) (leb c d)))) (eq-eqb c d e) ∙ cond_same (eqb a b) 0

opposed_apart : (a b c d : ℕ) → (a ≡ b → ⊥) → (c ≡ d → ⊥) → opposed a b c d ≡ differ (leb a b) (leb c d)
opposed_apart a b c d first last =
    ap (λ t. cond t 0 (cond (eqb c d) 0 (differ (leb a b) (leb c d)))) (ne_eqb a b first)
    ∙ ap (λ t. cond t 0 (differ (leb a b) (leb c d))) (ne_eqb c d last)

-- the other of two is less
leb_not : (a b : ℕ) → (a ≡ b → ⊥) → leb b a ≡ not (leb a b)
leb_not a b apart =
    ⊎_elim
    (λ low. lt-leb b a low ∙ ap not (sym (le-leb a b (omega arith))))
    (λ high. ⊎_elim (λ more. le-leb b a high ∙ ap not (sym (lt-leb a b more))) (λ less. absurd (apart (omega arith))) (cases_lt b a))
    (cases_lt a b)

pub opposed_turned : (a b c d : ℕ) → opposed b a d c ≡ opposed a b c d
opposed_turned a b c d =
    ⊎_elim
    (λ e. opposed_first b a d c (sym e) ∙ sym (opposed_first a b c d e))
    (λ first. ⊎_elim
    (λ e. opposed_last b a d c (sym e) ∙ sym (opposed_last a b c d e))
    (λ last.
    opposed_apart b a d c (λ e. first (sym e)) (λ e. last (sym e))
    ∙ ap (λ t. differ t (leb d c)) (leb_not a b first)
    ∙ ap (differ (not (leb a b))) (leb_not c d last)
    ∙ differ_not (leb a b) (leb c d)
    ∙ sym (opposed_apart a b c d first last))
    (cases_eq c d))
    (cases_eq a b)

pub opposed_none : (a b c d : ℕ) → a < b → c < d → opposed a b c d ≡ 0
opposed_none a b c d low also =
    opposed_apart a b c d (λ e. absurd (omega arith)) (λ e. absurd (omega arith))
    ∙ ap (λ t. differ t (leb c d)) (le-leb a b (omega arith)) ∙ ap (differ true) (le-leb c d (omega arith))

pub opposed_one : (a b c d : ℕ) → a < b → d < c → opposed a b c d ≡ 1
opposed_one a b c d low high =
    opposed_apart a b c d (λ e. absurd (omega arith)) (λ e. absurd (omega arith))
    ∙ ap (λ t. differ t (leb c d)) (le-leb a b (omega arith)) ∙ ap (differ true) (lt-leb c d high)

opposed_same : (a b : ℕ) → opposed a b a b ≡ 0
opposed_same a b =
    ⊎_elim
    (λ e. opposed_first a b a b e)
    (λ apart. opposed_apart a b a b apart apart ∙ differ_none (leb a b))
    (cases_eq a b)

opposed_along : (a b c d e f : ℕ) → (a ≡ b → ⊥) → (c ≡ d → ⊥) → (e ≡ f → ⊥)
    → opposed a b e f + (opposed a b c d * opposed c d e f + opposed a b c d * opposed c d e f) ≡ opposed a b c d + opposed c d e f
opposed_along a b c d e f first middle last =
    replaced (opposed a b e f) (opposed a b c d) (opposed c d e f) (differ (leb a b) (leb e f)) (differ (leb a b) (leb c d)) (differ (leb c d) (leb e f))
    (opposed_apart a b e f first last) (opposed_apart a b c d first middle) (opposed_apart c d e f middle last)
    (differ_along (leb a b) (leb c d) (leb e f)) where
      replaced : (x y z u v w : ℕ) → x ≡ u → y ≡ v → z ≡ w → u + (v * w + v * w) ≡ v + w → x + (y * z + y * z) ≡ y + z
      replaced x y z u v w p q r h = cc

-- ## Rankings of a list

-- no two members have one rank
abbrev pub IsRanking : List ℕ → (ℕ → ℕ) → Type 0
IsRanking xs r = (x y : ℕ) → Contains xs x → Contains xs y → r x ≡ r y → x ≡ y

abbrev pub crossing : (ℕ → ℕ) → (ℕ → ℕ) → ℕ → ℕ → ℕ
crossing r t x y = opposed (r x) (r y) (t x) (t y)

-- the ordered pairs on which two rankings disagree
abbrev pub crossings : (ℕ → ℕ) → (ℕ → ℕ) → List ℕ → ℕ
crossings r t xs = doubly (crossing r t) xs

pub no_crossings : (r : ℕ → ℕ) (xs : List ℕ) → crossings r r xs ≡ 0
no_crossings r xs = sum_by_none (λ x. sum_by (crossing r r x) xs) xs (λ x _. sum_by_none (crossing r r x) xs (λ y _. opposed_same (r x) (r y)))

-- From a first ranking to a last there are as many modulo 4 as by way of a middle one.
pub crossings_along : (r t u : ℕ → ℕ) (xs : List ℕ) → IsRanking xs r → IsRanking xs t → IsRanking xs u
    → (k : ℕ) × (crossings r u xs + 4 * k ≡ crossings r t xs + crossings t u xs)
crossings_along r t u xs hr ht hu =
    let q : ℕ → ℕ → ℕ = λ x y. crossing r t x y * crossing t u x y in
    let alike : (x y : ℕ) → q x y ≡ q y x = λ x y.
    ap (λ n. n * crossing t u x y) (opposed_turned (r y) (r x) (t y) (t x)) ∙ ap (λ n. crossing r t y x * n) (opposed_turned (t y) (t x) (u y) (u x)) in
    let own : (x : ℕ) → q x x ≡ 0 = λ x. ap (λ n. n * crossing t u x x) (opposed_first (r x) (r x) (t x) (t x) refl) ∙ omega arith in
    let even = even_doubly q alike own xs in
    let two = even.1 in
    let each = doubly_listed (λ x y. crossing r u x y + (q x y + q x y)) (λ x y. crossing r t x y + crossing t u x y) xs (λ x y hx hy.
    ⊎_elim
    (λ e.
    let a = opposed_first (r x) (r y) (u x) (u y) (ap r e) in
    let b = opposed_first (r x) (r y) (t x) (t y) (ap r e) in
    let c = opposed_first (t x) (t y) (u x) (u y) (ap t e) in
    let none : q x y ≡ 0 = ap (λ n. n * crossing t u x y) b ∙ omega arith in
    omega arith)
    (λ apart. opposed_along (r x) (r y) (t x) (t y) (u x) (u y) (λ e. apart (hr x y hx hy e)) (λ e. apart (ht x y hx hy e)) (λ e. apart (hu x y hx hy e)))
    (cases_eq x y)) in
    let left = doubly_both (crossing r u) (λ x y. q x y + q x y) xs in
    let twice = doubly_both q q xs in
    let right = doubly_both (crossing r t) (crossing t u) xs in
    (even.0, omega arith)

-- A function that permutes the list keeps their number.
pub crossings_moved : (f : ℕ → ℕ) (xs : List ℕ) → ((g : ℕ → ℕ) → sum_by (λ x. g (f x)) xs ≡ sum_by g xs) → (r t : ℕ → ℕ)
    → crossings (λ x. r (f x)) (λ x. t (f x)) xs ≡ crossings r t xs
crossings_moved f xs permutes r t =
    sum_by_equal (λ x. sum_by (λ y. crossing r t (f x) (f y)) xs) (λ x. sum_by (crossing r t (f x)) xs) (λ x. permutes (crossing r t (f x))) xs
    ∙ permutes (λ x. sum_by (crossing r t x) xs)
