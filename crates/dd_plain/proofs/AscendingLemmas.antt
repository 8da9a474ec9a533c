-- A symbol put into its place in an ascending list.
use Rattle.std.proofs.Common.{◌≡◌, ℕ, zero, suc, ◌<◌, ◌⊎◌, ◌↔◌, List, [], ◌∷◌, ◌++◌, length, get_or, take, drop, sym, ap, ◌∙◌, subst, inl, inr, ⊎_elim, arith}
use Rattle.std.specs.List.{AllByRecursion, Contains}
use Rattle.std.proofs.lemmas.List.{take-append-drop}
use Rattle.std.proofs.lemmas.List.Elements.{Contains-append_left, Contains-append_right, Contains-append_cases, Contains-push, Contains-push_cases}
use Rattle.std.specs.Ordering.{ordering_reverse}
use Rattle.std.specs.declared.cmp.Ordering.TheVariants.{Greater}
use Rattle.dd_model.specs.Symbol.{Symbol}
use Rattle.dd_model.specs.Code.{code_cmp, IsBelow}
use Rattle.dd_model.specs.Wanted.{IsAscending}
use Rattle.dd_model.proofs.Codes.{code_cmp_total}

below_trans : (s t u : Symbol) → IsBelow s t → IsBelow t u → IsBelow s u
below_trans s t u a b = code_cmp_total.trans s t u a b

all_above : (s t : Symbol) → IsBelow s t → (ss : List Symbol) → AllByRecursion (IsBelow t) ss → AllByRecursion (IsBelow s) ss
all_above s t below [] h = tt
all_above s t below (u ∷ ss) h = (below_trans s t u below h.0, all_above s t below ss h.1)

all-append : (P : Symbol → Type 0) (xs : List Symbol) (x : Symbol) (ys : List Symbol) → AllByRecursion P (xs ++ ys) → P x → AllByRecursion P (xs ++ x ∷ ys)
all-append P [] x ys h p = (p, h)
all-append P (y ∷ xs) x ys h p = (h.0, all-append P xs x ys h.1 p)

-- between what is below it and what is above it
pub ascending-insert : (xs ys : List Symbol) (x : Symbol) → IsAscending (xs ++ ys) → AllByRecursion (λ y. IsBelow y x) xs → AllByRecursion (IsBelow x) ys → IsAscending (xs ++ x ∷ ys)
ascending-insert [] ys x h before after = (after, h)
ascending-insert (y ∷ xs) ys x h before after = (all-append (IsBelow y) xs x ys h.0 before.0, ascending-insert xs ys x h.1 before.1 after)

pub Contains-insert : (xs ys : List Symbol) (x : Symbol) (s : Symbol) → Contains (xs ++ x ∷ ys) s ↔ (Contains (xs ++ ys) s ⊎ (s ≡ x))
Contains-insert xs ys x s = (
  (λ h.
      ⊎_elim
      (λ front. inl (Contains-append_left xs ys s front))
      (λ rest.
      ⊎_elim
      (λ one. inr (one_member x s one))
      (λ back. inl (Contains-append_right xs ys s back))
      (Contains-append_cases (x ∷ []) ys s rest))
      (Contains-append_cases xs (x ∷ ys) s h)),
  (λ h.
      ⊎_elim
      (λ old.
      ⊎_elim
      (λ front. Contains-append_left xs (x ∷ ys) s front)
      (λ back. Contains-append_right xs (x ∷ ys) s (Contains-append_right (x ∷ []) ys s back))
      (Contains-append_cases xs ys s old))
      (λ new. subst (Contains (xs ++ x ∷ ys)) (sym new) (Contains-append_right xs (x ∷ ys) x (Contains-append_left (x ∷ []) ys x (Contains-push [] x))))
      h),
)
  where
    one_member : (x s : Symbol) → Contains (x ∷ []) s → s ≡ x
    one_member x s h = ⊎_elim (λ none. absurd (omega (arith, none.1))) (λ e. sym e) (Contains-push_cases [] x s h)

-- what is above a member is above all from there on
pub above-from : (x : Symbol) (xs : List Symbol) (k : ℕ) (d : Symbol) → IsAscending xs → k < length xs → IsBelow x (get_or xs k d) → AllByRecursion (IsBelow x) (drop k xs)
above-from x [] k d asc h below = absurd (omega arith)
above-from x (y ∷ xs) zero d asc h below = (below, all_above x y below xs asc.0)
above-from x (y ∷ xs) (suc k) d asc h below = above-from x xs k d asc.1 (omega arith) below

pub greater_is_above : (s t : Symbol) → code_cmp s t ≡ Greater → IsBelow t s
greater_is_above s t e = code_cmp_total.antisymm t s ∙ ap ordering_reverse e

pub ascending-insert_at : (xs : List Symbol) (k : ℕ) (x : Symbol) → IsAscending xs → AllByRecursion (λ y. IsBelow y x) (take k xs) → AllByRecursion (IsBelow x) (drop k xs)
    → IsAscending (take k xs ++ x ∷ drop k xs)
ascending-insert_at xs k x asc before after =
    ascending-insert (take k xs) (drop k xs) x (subst IsAscending (sym (take-append-drop k xs)) asc) before after

pub Contains-insert_at : (xs : List Symbol) (k : ℕ) (x s : Symbol) → Contains (take k xs ++ x ∷ drop k xs) s ↔ (Contains xs s ⊎ (s ≡ x))
Contains-insert_at xs k x s =
    subst (λ ys. Contains (take k xs ++ x ∷ drop k xs) s ↔ (Contains ys s ⊎ (s ≡ x))) (take-append-drop k xs) (Contains-insert (take k xs) (drop k xs) x s)
