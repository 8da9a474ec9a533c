-- Lists in descending order: each list has one arrangement, and a sort that compares the other way round makes it.
use Rattle.std.proofs.Common.{◌≡◌, ℕ, zero, suc, ◌+◌, ◌⊎◌, Bool, false, cond, List, [], ◌∷◌, refl, sym, ap, ◌∙◌, inl, inr, ⊎_elim, arith}
use Rattle.std.specs.Prelude.{sum_by}
use Rattle.std.specs.List.{Contains}
use Rattle.std.specs.List.Sorted.{IsSorted, IsSortedBy}
use Rattle.std.specs.Cmp.{IsTotalOrder, IsStrictWeakOrder, nat_cmp_total}
use Rattle.std.specs.Cmp.Lexicographic.{nat_list_cmp_total}
use Rattle.std.specs.FinMap.{IsAntisymmetric, nat_cmp-IsAntisymmetric, slice_cmp-IsAntisymmetric}
use Rattle.std.specs.Ordering.{nat_cmp, is_lt, ordering_reverse}
use Rattle.std.specs.declared.cmp.Ordering.{Ordering}
use Rattle.std.specs.declared.cmp.Ordering.TheVariants.{Less, Equal, Greater}
use Rattle.std.proofs.lemmas.Cmp.{tied_itself}
use Rattle.std.proofs.lemmas.List.Sorted.{sorted_far, ranks_by, IsStrictWeakOrder-flip, sum_by-IsPermutation}
use Rattle.std.proofs.lemmas.List.Sums.{sum_by-cons}
use Rattle.dd_name.specs.Arranged.{IsDescending, dictionary}
use Rattle.dd_model.proofs.Lists.{Contains-head, Contains-later}

-- what a comparison answers
pub ordering_cases : (o : Ordering) → (o ≡ Less) ⊎ (o ≡ Equal) ⊎ (o ≡ Greater)
ordering_cases Less = inl refl
ordering_cases Equal = inr (inl refl)
ordering_cases Greater = inr (inr refl)

-- the order that a sort compares by
pub ranks_back : {X : Type 0} (R : X → X → Ordering) → IsTotalOrder R → IsStrictWeakOrder (λ (x y : X). is_lt (R y x))
ranks_back {X} R total = IsStrictWeakOrder-flip (λ (x y : X). is_lt (R x y)) (ranks_by total (λ (x : X). x))

-- ## Sums over lists

none_counted : {X : Type 0} (f : X → ℕ) (xs : List X) → ((x : X) → Contains xs x → f x ≡ 0) → sum_by f xs ≡ 0
none_counted f [] none = refl
none_counted f (x ∷ xs) none =
    let here = none x (Contains-head x xs) in
    let later = none_counted f xs (λ y there. none y (Contains-later x y xs there)) in
    sum_by-cons f x xs ∙ omega (arith, here, later)

sorted_tail : {X : Type 0} (lt : X → X → Bool) (x : X) (xs : List X) → IsSortedBy lt (x ∷ xs) → IsSortedBy lt xs
sorted_tail lt x xs up k d low high =
    let e : suc k + 1 ≡ suc (k + 1) = omega arith in
    let r = up (suc k) d (omega arith) (omega arith) in rw e at r

-- no later member is greater than the first
below_head : {X : Type 0} (R : X → X → Ordering) → IsTotalOrder R → (x y : X) (xs : List X) → IsSorted (λ (a b : X). R b a) (x ∷ xs) → Contains (x ∷ xs) y → is_lt (R x y) ≡ false
below_head {X} R total x y xs down (zero, h, e) = ap is_lt (ap (R x) (sym e) ∙ tied_itself total x)
below_head {X} R total x y xs down (suc k, h, e) =
    ap (λ z. is_lt (R x z)) (sym e) ∙ sorted_far (λ (a b : X). is_lt (R b a)) (ranks_back R total) (x ∷ xs) down 0 (suc k) y (omega arith) h

-- 1 at what is greater than x
above : {X : Type 0} → (X → X → Ordering) → X → X → ℕ
above R x y = cond (is_lt (R x y)) 1 0

-- the greatest of two lists that hold the same are equal
not_above : {X : Type 0} (R : X → X → Ordering) → IsTotalOrder R → (y z : X) (ys zs : List X) → IsSorted (λ (a b : X). R b a) (y ∷ ys)
    → ((f : X → ℕ) → sum_by f (y ∷ ys) ≡ sum_by f (z ∷ zs)) → R y z ≡ Less → ⊥
unfolding above
not_above R total y z ys zs down same low =
    let none = none_counted (above R y) (y ∷ ys) (λ x there. ap (λ (b : Bool). cond b 1 0) (below_head R total y x ys down there)) in
    let one : above R y z ≡ 1 = ap (λ (o : Ordering). cond (is_lt o) 1 0) low in
    let all = sum_by-cons (above R y) z zs in
    let both = same (above R y) in
    omega (arith, none, one, all, both)

same_sums : {X : Type 0} (R : X → X → Ordering) → IsTotalOrder R → IsAntisymmetric R → (ys zs : List X) → IsSorted (λ (a b : X). R b a) ys → IsSorted (λ (a b : X). R b a) zs
    → ((f : X → ℕ) → sum_by f ys ≡ sum_by f zs) → ys ≡ zs
same_sums {X} R total anti [] [] a b same = refl
same_sums {X} R total anti [] (z ∷ zs) a b same =
    let all = sum_by-cons (λ (x : X). 1) z zs in let both = same (λ (x : X). 1) in absurd (omega (arith, all, both))
same_sums {X} R total anti (y ∷ ys) [] a b same =
    let all = sum_by-cons (λ (x : X). 1) y ys in let both = same (λ (x : X). 1) in absurd (omega (arith, all, both))
same_sums {X} R total anti (y ∷ ys) (z ∷ zs) a b same =
    let lt : X → X → Bool = λ x w. is_lt (R w x) in
    let heads : y ≡ z =
    ⊎_elim
    (λ low. absurd (not_above R total y z ys zs a same low))
    (λ rest. ⊎_elim
    (λ equal. anti y z equal)
    (λ high. absurd (not_above R total z y zs ys b (λ f. sym (same f)) (total.antisymm z y ∙ ap ordering_reverse high)))
    rest)
    (ordering_cases (R y z)) in
    let tails : ys ≡ zs =
    same_sums R total anti ys zs (sorted_tail lt y ys a) (sorted_tail lt z zs b)
    (λ f.
    let l = sum_by-cons f y ys in
    let r = sum_by-cons f z zs in
    let both = same f in
    let head = ap f heads in
    omega (arith, l, r, both, head)) in
    ap (λ (x : X). x ∷ ys) heads ∙ ap (λ (xs : List X). z ∷ xs) tails

pub descending_unique : {X : Type 0} (R : X → X → Ordering) → IsTotalOrder R → IsAntisymmetric R → (xs ys zs : List X) → IsDescending R xs ys → IsDescending R xs zs → ys ≡ zs
descending_unique R total anti xs ys zs a b =
    same_sums R total anti ys zs a.sorted b.sorted
    (λ f. sum_by-IsPermutation f xs ys a.permutation ∙ sym (sum_by-IsPermutation f xs zs b.permutation))

pub dictionary_anti : IsAntisymmetric dictionary
dictionary_anti = slice_cmp-IsAntisymmetric nat_cmp-IsAntisymmetric

pub descending_numbers : (xs ys zs : List ℕ) → IsDescending nat_cmp xs ys → IsDescending nat_cmp xs zs → ys ≡ zs
descending_numbers = descending_unique nat_cmp nat_cmp_total nat_cmp-IsAntisymmetric

pub descending_lists : (xs ys zs : List (List ℕ)) → IsDescending dictionary xs ys → IsDescending dictionary xs zs → ys ≡ zs
descending_lists = descending_unique dictionary nat_list_cmp_total dictionary_anti
