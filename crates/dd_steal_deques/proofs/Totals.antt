-- Sums over views, and lists of numbers.
use Rattle.std.proofs.Common.{◌≡◌, ◌≢◌, ℕ, zero, suc, ◌+◌, ◌≤◌, ◌==◌, Bool, true, false, List, [], ◌∷◌, ◌++◌, length, set, refl, sym, ◌∙◌, ap, arith}
use Rattle.std.proofs.lemmas.Bool.Decides.{nat_tests}
use Rattle.std.specs.Prelude.{if◌then◌else◌}
use mathlib.Core.Option.{some, some-ne-none}
use lib.ListN.{get_elem?}
use Rattle.dd_steal_deques.specs.declared.known.Known.{Known}
use Rattle.dd_steal_deques.specs.Numbers.{times, counting, total}

pub times-append : (x : ℕ) (xs ys : List ℕ) → times x (xs ++ ys) ≡ times x xs + times x ys
times-append x [] ys = omega arith
times-append x (y ∷ xs) ys = omega (arith, times-append x xs ys)

counting_suc : (a k : ℕ) → counting a (suc k) ≡ counting a k ++ (a + k) ∷ []
counting_suc a zero = let e : a ≡ a + 0 = omega arith in ap (λ n. n ∷ []) e
counting_suc a (suc k) = let e : suc a + k ≡ a + suc k = omega arith in ap (λ t. a ∷ t) (counting_suc (suc a) k ∙ ap (λ n. counting (suc a) k ++ n ∷ []) e)

pub counting_snoc : (a k : ℕ) → counting a (k + 1) ≡ counting a k ++ (a + k) ∷ []
counting_snoc a k = let e : k + 1 ≡ suc k = omega arith in ap (λ n. counting a n) e ∙ counting_suc a k

some_same : (u v : Known) → some u ≡ some v → u ≡ v
some_same u v e = cc e

-- the total after a change of one view
pub total_set : (f : Known → ℕ) (views : List Known) (port : ℕ) (v w : Known) → get_elem? views port ≡ some v → total f (set views port w) + f v ≡ total f views + f w
total_set f [] port v w at = absurd (some-ne-none v (sym at))
total_set f (u ∷ views) zero v w at = let same : u ≡ v = some_same u v at in rw same (omega arith)
total_set f (u ∷ views) (suc port) v w at = omega (arith, total_set f views port v w at)

-- no part of a sum that is 0 is more
pub total_zero : (f : Known → ℕ) (views : List Known) (port : ℕ) (v : Known) → total f views ≡ 0 → get_elem? views port ≡ some v → f v ≡ 0
total_zero f [] port v none at = absurd (some-ne-none v (sym at))
total_zero f (u ∷ views) zero v none at = let same : f u ≡ f v = ap f (some_same u v at) in omega (arith, same, none)
total_zero f (u ∷ views) (suc port) v none at = total_zero f views port v (omega (arith, none)) at

total_none : (f : Known → ℕ) (views : List Known) → ((j : ℕ) (u : Known) → get_elem? views j ≡ some u → f u ≡ 0) → total f views ≡ 0
total_none f [] none = refl
total_none f (u ∷ views) none = let here = none 0 u refl in let rest = total_none f views (λ j y e. none (suc j) y e) in omega (arith, here, rest)

-- the total where all other views have none
pub total_alone : (f : Known → ℕ) (views : List Known) (port : ℕ) (v : Known) → get_elem? views port ≡ some v
    → ((j : ℕ) (u : Known) → j ≢ port → get_elem? views j ≡ some u → f u ≡ 0) → total f views ≡ f v
total_alone f [] port v at others = absurd (some-ne-none v (sym at))
total_alone f (u ∷ views) zero v at others =
    let same : f u ≡ f v = ap f (some_same u v at) in
    let rest = total_none f views (λ j y e. others (suc j) y (λ is. absurd (omega (arith, is))) e) in
    omega (arith, same, rest)
total_alone f (u ∷ views) (suc port) v at others =
    let here : f u ≡ 0 = others 0 u (λ is. absurd (omega (arith, is))) refl in
    let rest = total_alone f views port v at (λ j y apart e. others (suc j) y (λ is. apart (omega (arith, is))) e) in
    omega (arith, here, rest)

pub total_snoc : (f : Known → ℕ) (views : List Known) (v : Known) → total f (views ++ v ∷ []) ≡ total f views + f v
total_snoc f [] v = omega arith
total_snoc f (u ∷ views) v = omega (arith, total_snoc f views v)

-- a list without one x
abbrev without : ℕ → List ℕ → List ℕ
without x [] = []
without x (y ∷ ys) = if x == y then ys else y ∷ without x ys

times_without_by : (x y : ℕ) (ys : List ℕ) (z : ℕ) (same : Bool) → (x == y) ≡ same → (1 ≤ times x ys → times z (without x ys) + times z (x ∷ []) ≡ times z ys)
    → 1 ≤ times x (y ∷ ys) → times z (without x (y ∷ ys)) + times z (x ∷ []) ≡ times z (y ∷ ys)
times_without_by x y ys z true is rest held = grind (arith, nat_tests, is)
times_without_by x y ys z false is rest held =
    let at : 1 ≤ times x ys = grind (arith, nat_tests, is, held) in
    grind (arith, nat_tests, is, rest at)

times_without : (x : ℕ) (ys : List ℕ) (z : ℕ) → 1 ≤ times x ys → times z (without x ys) + times z (x ∷ []) ≡ times z ys
times_without x [] z held = absurd (omega (arith, held))
times_without x (y ∷ ys) z held = times_without_by x y ys z (x == y) refl (times_without x ys z) held

length_without_by : (x y : ℕ) (ys : List ℕ) (same : Bool) → (x == y) ≡ same → (1 ≤ times x ys → length (without x ys) + 1 ≡ length ys)
    → 1 ≤ times x (y ∷ ys) → length (without x (y ∷ ys)) + 1 ≡ length (y ∷ ys)
length_without_by x y ys true is rest held = grind (arith, nat_tests, is)
length_without_by x y ys false is rest held =
    let at : 1 ≤ times x ys = grind (arith, nat_tests, is, held) in
    grind (arith, nat_tests, is, rest at)

length_without : (x : ℕ) (ys : List ℕ) → 1 ≤ times x ys → length (without x ys) + 1 ≡ length ys
length_without x [] held = absurd (omega (arith, held))
length_without x (y ∷ ys) held = length_without_by x y ys (x == y) refl (length_without x ys) held

-- a list in which nothing stands more often than in another is no longer
pub length_le : (xs ys : List ℕ) → ((z : ℕ) → times z xs ≤ times z ys) → length xs ≤ length ys
length_le [] ys within = omega arith
length_le (x ∷ xs) ys within =
    let one : 1 ≤ times x (x ∷ xs) = grind (arith, nat_tests) in
    let held : 1 ≤ times x ys = omega (arith, one, within x) in
    let rest = length_le xs (without x ys) (λ z. omega (arith, times_without x ys z held, within z)) in
    omega (arith, rest, length_without x ys held)

pub length_counting : (a k : ℕ) → length (counting a k) ≡ k
length_counting a zero = refl
length_counting a (suc k) = omega (arith, length_counting (suc a) k)

pub total_part : (f : Known → ℕ) (views : List Known) (port : ℕ) (v : Known) → get_elem? views port ≡ some v → f v ≤ total f views
total_part f [] port v at = absurd (some-ne-none v (sym at))
total_part f (u ∷ views) zero v at = let same : f u ≡ f v = ap f (some_same u v at) in omega (arith, same)
total_part f (u ∷ views) (suc port) v at = omega (arith, total_part f views port v at)
