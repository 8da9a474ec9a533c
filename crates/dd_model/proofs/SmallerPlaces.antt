-- Where lists of numbers first differ, place by place.
use Rattle.std.proofs.Common.{◌≡◌, ◌≢◌, ◌↔◌, ◌⊎◌, ℕ, suc, ◌+◌, ◌<◌, ◌≤◌, Bool, true, IsTrue, List, [], ◌∷◌, ◌++◌, length, get_or, drop, refl, sym, ap, ◌∙◌, subst, inl, inr, ⊎_elim, arith}
use Rattle.std.proofs.lemmas.List.{length-drop}
use Rattle.std.proofs.Math.Seq.{drop-cons}
use Rattle.dd_model.proofs.Ascending.{begins_append}
use Rattle.dd_model.specs.Lists.{Begins, IsSmallerWhereTheyDiffer}

-- the question from a place on
abbrev pub SmallerFrom : ℕ → List ℕ → List ℕ → Type 0
SmallerFrom k xs ys = IsSmallerWhereTheyDiffer (drop k xs) (drop k ys)

-- the lists at a place that both have
opened : (k : ℕ) (xs ys : List ℕ) → k < length xs → k < length ys → (P : List ℕ → List ℕ → Type 0)
    → P (get_or xs k 0 ∷ drop (k + 1) xs) (get_or ys k 0 ∷ drop (k + 1) ys) ↔ P (drop k xs) (drop k ys)
opened k xs ys hx hy P =
    let e : suc k ≡ k + 1 = omega arith in
    let ex : drop k xs ≡ get_or xs k 0 ∷ drop (k + 1) xs = drop-cons xs k 0 hx ∙ ap (λ i. get_or xs k 0 ∷ drop i xs) e in
    let ey : drop k ys ≡ get_or ys k 0 ∷ drop (k + 1) ys = drop-cons ys k 0 hy ∙ ap (λ i. get_or ys k 0 ∷ drop i ys) e in (
      (λ h. subst (λ zs. P zs (drop k ys)) (sym ex) (subst (λ zs. P (get_or xs k 0 ∷ drop (k + 1) xs) zs) (sym ey) h)),
      (λ h. subst (λ zs. P (get_or xs k 0 ∷ drop (k + 1) xs) zs) ey (subst (λ zs. P zs (drop k ys)) ex h)),
    )

-- where the numbers are equal, the next places decide
pub smaller_after : (k : ℕ) (xs ys : List ℕ) → k < length xs → k < length ys → get_or xs k 0 ≡ get_or ys k 0 → SmallerFrom k xs ys ↔ SmallerFrom (k + 1) xs ys
smaller_after k xs ys hx hy e =
    let both = opened k xs ys hx hy IsSmallerWhereTheyDiffer in (
      (λ h. ⊎_elim (λ less. absurd (omega arith)) (λ more. more.1) (both.1 h)),
      (λ h. both.0 (inr (e, h))),
    )

-- where they differ, they decide
pub smaller_here : (k : ℕ) (xs ys : List ℕ) → k < length xs → k < length ys → get_or xs k 0 ≢ get_or ys k 0 → (get_or xs k 0 < get_or ys k 0) ↔ SmallerFrom k xs ys
smaller_here k xs ys hx hy differ =
    let both = opened k xs ys hx hy IsSmallerWhereTheyDiffer in (
      (λ less. both.0 (inl less)),
      (λ h. ⊎_elim (λ less. less) (λ more. absurd (differ more.0)) (both.1 h)),
    )

pub not_smaller_than_none : (xs : List ℕ) → IsSmallerWhereTheyDiffer xs [] → ⊥
not_smaller_than_none [] h = h
not_smaller_than_none (x ∷ xs) h = h

none_from : (k : ℕ) (xs : List ℕ) → length xs ≤ k → drop k xs ≡ []
none_from k xs h = simp_none (drop k xs) (omega (arith, length-drop k xs))
  where
    simp_none : (zs : List ℕ) → length zs ≡ 0 → zs ≡ []
    simp_none [] e = refl
    simp_none (z ∷ zs) e = absurd (omega arith)

-- where one of the lists ends, there is no such place
pub not_smaller_past : (k : ℕ) (xs ys : List ℕ) → (length xs ≤ k) ⊎ (length ys ≤ k) → SmallerFrom k xs ys → ⊥
not_smaller_past k xs ys ends h = ⊎_elim
    (λ short. subst (λ zs. IsSmallerWhereTheyDiffer zs (drop k ys)) (none_from k xs short) h)
    (λ short. not_smaller_than_none (drop k xs) (subst (λ zs. IsSmallerWhereTheyDiffer (drop k xs) zs) (none_from k ys short) h))
    ends

-- ## Beginnings

pub begins_is_front : (xs ys : List ℕ) → Begins xs ys → ys ≡ xs ++ drop (length xs) ys
begins_is_front [] ys b = refl
begins_is_front (x ∷ xs) [] b = absurd b
begins_is_front (x ∷ xs) (y ∷ ys) b = ap (λ z. z ∷ ys) (sym b.0) ∙ ap (λ zs. x ∷ zs) (begins_is_front xs ys b.1)

-- a test of the front of a list tells whether the list begins with it
pub begins_by_test : (xs ys : List ℕ) (r : Bool) → (r ≡ true → ys ≡ xs ++ drop (length xs) ys) × ((rest : List ℕ) → ys ≡ xs ++ rest → r ≡ true) → IsTrue r ↔ Begins xs ys
begins_by_test xs ys r both = (
  (λ yes. subst (Begins xs) (sym (both.0 yes)) (begins_append xs (drop (length xs) ys))),
  (λ begins. both.1 (drop (length xs) ys) (begins_is_front xs ys begins)),
)
