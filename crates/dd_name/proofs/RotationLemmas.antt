-- Rotations of a list are the parts of the list written twice.
use Rattle.std.proofs.Common.{◌≡◌, ◌≢◌, ℕ, ◌+◌, ◌<◌, ◌≤◌, true, false, List, ◌++◌, length, take, drop, refl, sym, ap, ◌∙◌, subst, inl, inr, ⊎_elim, arith}
use Rattle.std.specs.Prelude.{reverse}
use Rattle.std.proofs.lemmas.Bool.{cases_lt}
use Rattle.std.proofs.lemmas.List.{append_assoc, take_at, drop_at, take-append-drop, length-append, length-take, take_all}
use Rattle.std.specs.Cmp.Lexicographic.{nat_list_cmp_total}
use Rattle.std.specs.Ordering.{is_lt, is_gt, ordering_reverse}
use Rattle.std.specs.declared.cmp.Ordering.{Ordering}
use Rattle.std.specs.declared.cmp.Ordering.TheVariants.{Less, Equal, Greater}
use Rattle.std.proofs.lemmas.Cmp.{upto, tied_itself}
use Rattle.dd_name.specs.Arranged.{dictionary, IsRotation, IsGreatestRotation, IsGreatestTurned}
use Rattle.dd_name.proofs.DescendingLemmas.{ordering_cases, dictionary_anti}

-- ## At most

-- xs is at most ys
abbrev pub IsAtMost : List ℕ → List ℕ → Type 0
IsAtMost xs ys = is_gt (dictionary xs ys) ≡ false

pub at_most-refl : (xs : List ℕ) → IsAtMost xs xs
at_most-refl xs = ap is_gt (tied_itself nat_list_cmp_total xs)

pub at_most-trans : (xs ys zs : List ℕ) → IsAtMost xs ys → IsAtMost ys zs → IsAtMost xs zs
at_most-trans xs ys zs a b = upto nat_list_cmp_total xs ys zs a b

gt_reverse : (o : Ordering) → is_gt (ordering_reverse o) ≡ is_lt o
gt_reverse Less = refl
gt_reverse Equal = refl
gt_reverse Greater = refl

-- the other way round
pub at_most_is : (xs ys : List ℕ) → is_gt (dictionary xs ys) ≡ is_lt (dictionary ys xs)
at_most_is xs ys = ap is_gt (nat_list_cmp_total.antisymm xs ys) ∙ gt_reverse (dictionary ys xs)

pub not_less : (xs ys : List ℕ) → IsAtMost xs ys → dictionary ys xs ≢ Less
not_less xs ys a low = let e = sym a ∙ at_most_is xs ys ∙ ap is_lt low in (cc)

pub at_most_from : (xs ys : List ℕ) → dictionary ys xs ≢ Less → IsAtMost xs ys
at_most_from xs ys not =
    at_most_is xs ys
    ∙ ⊎_elim
    (λ low. absurd (not low))
    (λ rest. ⊎_elim (λ e. ap is_lt e) (λ e. ap is_lt e) rest)
    (ordering_cases (dictionary ys xs))

pub at_most_both : (xs ys : List ℕ) → IsAtMost xs ys → IsAtMost ys xs → xs ≡ ys
at_most_both xs ys a b =
    ⊎_elim
    (λ low. absurd (not_less ys xs b low))
    (λ rest. ⊎_elim (λ e. dictionary_anti xs ys e) (λ high. let e = sym a ∙ ap is_gt high in absurd (cc)) rest)
    (ordering_cases (dictionary xs ys))

-- ## Parts of a doubled list

-- n members from place k on
abbrev pub part : List ℕ → ℕ → ℕ → List ℕ
part xs n k = take n (drop k xs)

rotation_at : (front back : List ℕ) → part ((front ++ back) ++ (front ++ back)) (length (front ++ back)) (length front) ≡ back ++ front
rotation_at front back =
    let n = length (front ++ back) in
    let regrouped : (front ++ back) ++ (front ++ back) ≡ front ++ ((back ++ front) ++ back) =
    append_assoc front back (front ++ back) ∙ ap (λ xs. front ++ xs) (sym (append_assoc back front back)) in
    let longer : length (back ++ front) ≡ n = let a = length-append back front in let b = length-append front back in omega (arith, a, b) in
    ap (λ xs. part xs n (length front)) regrouped
    ∙ ap (take n) (drop_at front ((back ++ front) ++ back) (length front) refl)
    ∙ take_at (back ++ front) back n longer

pub part_is_rotation : (xs : List ℕ) (k : ℕ) → k ≤ length xs → IsRotation xs (part (xs ++ xs) (length xs) k)
part_is_rotation xs k low =
    let whole : take k xs ++ drop k xs ≡ xs = take-append-drop k xs in
    let at : length (take k xs) ≡ k = let l = length-take k xs in omega (arith, l, low) in
    record {
      front = take k xs;
      back = drop k xs;
      before = sym whole;
      after = ap (λ j. part (xs ++ xs) (length xs) j) (sym at)
          ∙ ap (λ ys. part (ys ++ ys) (length ys) (length (take k xs))) (sym whole)
          ∙ rotation_at (take k xs) (drop k xs);
    }

-- a rotation is the part from the place where it begins
rotation_is_part : (xs zs : List ℕ) → (r : IsRotation xs zs) → zs ≡ part (xs ++ xs) (length xs) (length r.front)
rotation_is_part xs zs r =
    r.after ∙ sym (rotation_at r.front r.back) ∙ ap (λ ys. part (ys ++ ys) (length ys) (length r.front)) (sym r.before)

whole_again : (xs : List ℕ) → part (xs ++ xs) (length xs) (length xs) ≡ part (xs ++ xs) (length xs) 0
whole_again xs = ap (take (length xs)) (drop_at xs xs (length xs) refl) ∙ take_all (length xs) xs (omega arith) ∙ sym (take_at xs xs (length xs) refl)

-- where one part is at least all parts that begin below k
pub record IsBestBelow (doubled : List ℕ) (n k best : ℕ) : Type 0 where
  pub within : best ≤ n
  pub greatest : (j : ℕ) → j < k → IsAtMost (part doubled n j) (part doubled n best)

pub best_starts : (doubled : List ℕ) (n : ℕ) → IsBestBelow doubled n 1 0
best_starts doubled n = record {
  within = omega arith;
  greatest = λ j low. let e : j ≡ 0 = omega arith in subst (λ i. IsAtMost (part doubled n i) (part doubled n 0)) (sym e) (at_most-refl (part doubled n 0));
}

pub best_goes : (doubled : List ℕ) (n k best : ℕ) → IsBestBelow doubled n k best → k ≤ n → is_gt (dictionary (part doubled n k) (part doubled n best)) ≡ true → IsBestBelow doubled n (k + 1) k
best_goes doubled n k best w low better = record {
  within = low;
  greatest = λ j below.
      ⊎_elim
      (λ early.
      at_most-trans (part doubled n j) (part doubled n best) (part doubled n k) (w.greatest j early)
      (at_most_from (part doubled n best) (part doubled n k) (λ less. let e = sym better ∙ ap is_gt less in (cc))))
      (λ late. let e : j ≡ k = omega arith in subst (λ i. IsAtMost (part doubled n i) (part doubled n k)) (sym e) (at_most-refl (part doubled n k)))
      (cases_lt j k);
}

pub best_stays : (doubled : List ℕ) (n k best : ℕ) → IsBestBelow doubled n k best → is_gt (dictionary (part doubled n k) (part doubled n best)) ≡ false → IsBestBelow doubled n (k + 1) best
best_stays doubled n k best w worse = record {
  within = w.within;
  greatest = λ j below.
      ⊎_elim
      (λ early. w.greatest j early)
      (λ late. let e : j ≡ k = omega arith in subst (λ i. IsAtMost (part doubled n i) (part doubled n best)) (sym e) worse)
      (cases_lt j k);
}

pub best_of_all : (xs : List ℕ) (k best : ℕ) → 1 ≤ k → length xs ≤ k → IsBestBelow (xs ++ xs) (length xs) k best → IsGreatestRotation xs (part (xs ++ xs) (length xs) best)
best_of_all xs k best some whole w = record {
  rotation = part_is_rotation xs best w.within;
  greatest = λ zs r.
      let n = length xs in
      let doubled = xs ++ xs in
      let at = length r.front in
      let short : at ≤ n = let l = length-append r.front r.back in let e = ap length r.before in omega (arith, l, e) in
      let bound : IsAtMost (part doubled n at) (part doubled n best) =
      ⊎_elim
      (λ early. w.greatest at (omega arith))
      (λ late.
      let e : at ≡ n = omega arith in
      subst (λ ys. IsAtMost ys (part doubled n best)) (sym (ap (part doubled n) e ∙ whole_again xs)) (w.greatest 0 (omega arith)))
      (cases_lt at n) in
      not_less zs (part doubled n best) (subst (λ ys. IsAtMost ys (part doubled n best)) (sym (rotation_is_part xs zs r)) bound);
}

-- ## Both ways round

less_at_most : (o : Ordering) → is_lt o ≡ true → is_gt o ≡ false
less_at_most Less low = refl
less_at_most Equal low = refl
less_at_most Greater low = (cc)

-- the greater of the greatest rotations of a list and of its reversal
pub turned_forward : (xs forward backward : List ℕ) → IsGreatestRotation xs forward → IsGreatestRotation (reverse xs) backward
    → is_lt (dictionary forward backward) ≡ false → IsGreatestTurned xs forward
turned_forward xs forward backward a b high = record {
  turned = inl a.rotation;
  greatest = λ zs turned.
      ⊎_elim
      (λ r. a.greatest zs r)
      (λ r.
      not_less zs forward
      (at_most-trans zs backward forward (at_most_from zs backward (b.greatest zs r)) (at_most_is backward forward ∙ high)))
      turned;
}

pub turned_backward : (xs forward backward : List ℕ) → IsGreatestRotation xs forward → IsGreatestRotation (reverse xs) backward
    → is_lt (dictionary forward backward) ≡ true → IsGreatestTurned xs backward
turned_backward xs forward backward a b low = record {
  turned = inr b.rotation;
  greatest = λ zs turned.
      ⊎_elim
      (λ r.
      not_less zs backward
      (at_most-trans zs forward backward (at_most_from zs forward (a.greatest zs r))
      (less_at_most (dictionary forward backward) low)))
      (λ r. b.greatest zs r)
      turned;
}

pub turned_unique : (xs ys zs : List ℕ) → IsGreatestTurned xs ys → IsGreatestTurned xs zs → ys ≡ zs
turned_unique xs ys zs a b =
    at_most_both ys zs (at_most_from ys zs (b.greatest ys a.turned)) (at_most_from zs ys (a.greatest zs b.turned))
