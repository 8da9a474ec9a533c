-- Each list has a descending arrangement.
use Rattle.std.proofs.Common.{◌≡◌, zero, suc, ◌+◌, Bool, true, false, cond, List, [], ◌∷◌, get_or, refl, sym, ap, ◌∙◌, subst, arith}
use Rattle.std.specs.List.Sorted.{IsPermutation, IsSortedBy}
use Rattle.std.specs.Cmp.{IsTotalOrder}
use Rattle.std.specs.Ordering.{is_lt, ordering_reverse}
use Rattle.std.specs.declared.cmp.Ordering.{Ordering}
use Rattle.std.specs.declared.cmp.Ordering.TheVariants.{Less, Equal, Greater}
use Rattle.std.proofs.lemmas.List.Sorted.{IsPermutation-refl, IsPermutation-trans, IsPermutation-sym, IsPermutation-cons, IsPermutation-middle}
use Rattle.dd_name.specs.Arranged.{IsDescending}

module _ {X : Type 0} (lt : X → X → Bool) where
  -- a list with one member more, before the first that is not less
  placed : X → List X → List X
  placed x [] = x ∷ []
  placed x (y ∷ ys) = cond (lt y x) (y ∷ placed x ys) (x ∷ y ∷ ys)

  arranged : List X → List X
  arranged [] = []
  arranged (x ∷ xs) = placed x (arranged xs)

  placed_permutes : (x : X) (ys : List X) → IsPermutation (x ∷ ys) (placed x ys)
  unfolding placed
  placed_permutes x [] = IsPermutation-refl (x ∷ [])
  placed_permutes x (y ∷ ys) =
      elim (lt y x) as (λ b. IsPermutation (x ∷ y ∷ ys) (cond b (y ∷ placed x ys) (x ∷ y ∷ ys))) [
        | true ↦ IsPermutation-trans (x ∷ y ∷ ys) (y ∷ x ∷ ys) (y ∷ placed x ys)
            (IsPermutation-sym (y ∷ x ∷ ys) (x ∷ y ∷ ys) (IsPermutation-middle (y ∷ []) x ys))
            (IsPermutation-cons y (x ∷ ys) (placed x ys) (placed_permutes x ys))
        | false ↦ IsPermutation-refl (x ∷ y ∷ ys)
      ]

  arranged_permutes : (xs : List X) → IsPermutation xs (arranged xs)
  unfolding arranged
  arranged_permutes [] = IsPermutation-refl []
  arranged_permutes (x ∷ xs) =
      IsPermutation-trans (x ∷ xs) (x ∷ arranged xs) (placed x (arranged xs))
      (IsPermutation-cons x xs (arranged xs) (arranged_permutes xs))
      (placed_permutes x (arranged xs))

  -- the first is not less
  abbrev StartsFrom : X → List X → Type 0
  StartsFrom y [] = Unit {0}
  StartsFrom y (z ∷ zs) = lt z y ≡ false

  abbrev IsRow : List X → Type 0
  IsRow [] = Unit {0}
  IsRow (y ∷ ys) = StartsFrom y ys × IsRow ys

  placed_starts : (y x : X) (zs : List X) → lt x y ≡ false → StartsFrom y zs → StartsFrom y (placed x zs)
  unfolding placed
  placed_starts y x [] high from = high
  placed_starts y x (z ∷ zs) high from =
      elim (lt z x) as (λ b. StartsFrom y (cond b (z ∷ placed x zs) (x ∷ z ∷ zs))) [ true ↦ from | false ↦ high ]

  placed_row : ((a b : X) → lt a b ≡ true → lt b a ≡ false) → (x : X) (ys : List X) → IsRow ys → IsRow (placed x ys)
  unfolding placed
  placed_row apart x [] row = (tt, tt)
  placed_row apart x (y ∷ ys) row =
      elim (lt y x) as (λ b. lt y x ≡ b → IsRow (cond b (y ∷ placed x ys) (x ∷ y ∷ ys))) [
        | true ↦ λ low. (placed_starts y x ys (apart y x low) row.0, placed_row apart x ys row.1)
        | false ↦ λ high. (high, row)
      ]
      refl

  arranged_row : ((a b : X) → lt a b ≡ true → lt b a ≡ false) → (xs : List X) → IsRow (arranged xs)
  unfolding arranged
  arranged_row apart [] = tt
  arranged_row apart (x ∷ xs) = placed_row apart x (arranged xs) (arranged_row apart xs)

  row_sorted : (xs : List X) → IsRow xs → IsSortedBy lt xs
  row_sorted [] row k d low high = absurd (omega (arith, high))
  row_sorted (x ∷ []) row k d low high = absurd (omega (arith, high))
  row_sorted (x ∷ y ∷ ys) row zero d low high = row.0
  row_sorted (x ∷ y ∷ ys) row (suc k) d low high =
      let e : suc k + 1 ≡ suc (k + 1) = omega arith in
      subst (λ j. lt (get_or (x ∷ y ∷ ys) j d) (get_or (y ∷ ys) k d) ≡ false) (sym e)
      (row_sorted (y ∷ ys) row.1 k d (omega arith) (omega (arith, high)))

turned_round : (o : Ordering) → is_lt o ≡ true → is_lt (ordering_reverse o) ≡ false
turned_round Less low = refl
turned_round Equal low = refl
turned_round Greater low = absurd (cc)

pub record HasDescending {X : Type 0} (R : X → X → Ordering) (xs : List X) : Type 0 where
  pub arrangement : List X
  pub is : IsDescending R xs arrangement

pub descending_exists : {X : Type 0} (R : X → X → Ordering) → IsTotalOrder R → (xs : List X) → HasDescending R xs
descending_exists {X} R total xs =
    let lt : X → X → Bool = λ a b. is_lt (R b a) in
    record {
      arrangement = arranged lt xs;
      is = record {
        permutation = arranged_permutes lt xs;
        sorted = row_sorted lt (arranged lt xs) (arranged_row lt (λ a b low. ap is_lt (total.antisymm a b) ∙ turned_round (R b a) low) xs);
      };
    }
