-- Items that a stable sort keeps in their order.
use Rattle.std.proofs.Common.{◌≡◌, ℕ, zero, suc, ◌<◌, Bool, true, false, cond, List, [], ◌∷◌, length, get_or, subst, arith}
use Rattle.std.specs.List.{AllByRecursion, filter}
use Rattle.dd_model.proofs.Pairs.{ArePairs}

module _ {A : Type 0} (t : A → Bool) where
  all_if : (P : A → Type 0) (x : A) (xs : List A) (b : Bool) → P x → AllByRecursion P xs → AllByRecursion P (cond b (x ∷ xs) xs)
  all_if P x xs true here all = (here, all)
  all_if P x xs false here all = all

  all_filtered : (P : A → Type 0) (xs : List A) → AllByRecursion P xs → AllByRecursion P (filter t xs)
  all_filtered P [] all = tt
  all_filtered P (x ∷ xs) all = all_if P x (filter t xs) (t x) all.0 (all_filtered P xs all.1)

  pairs_if : (R : A → A → Type 0) (x : A) (xs : List A) (b : Bool) → AllByRecursion (R x) xs → ArePairs R xs → ArePairs R (cond b (x ∷ xs) xs)
  pairs_if R x xs true all pairs = (all, pairs)
  pairs_if R x xs false all pairs = pairs

  pub pairs_filtered : (R : A → A → Type 0) (xs : List A) → ArePairs R xs → ArePairs R (filter t xs)
  pairs_filtered R [] pairs = tt
  pairs_filtered R (x ∷ xs) pairs = pairs_if R x (filter t xs) (t x) (all_filtered (R x) xs pairs.0) (pairs_filtered R xs pairs.1)

  all_rest : (P : A → Type 0) (x : A) (xs : List A) (b : Bool) → AllByRecursion P (cond b (x ∷ xs) xs) → AllByRecursion P xs
  all_rest P x xs true all = all.1
  all_rest P x xs false all = all

  pairs_rest : (R : A → A → Type 0) (x : A) (xs : List A) (b : Bool) → ArePairs R (cond b (x ∷ xs) xs) → ArePairs R xs
  pairs_rest R x xs true pairs = pairs.1
  pairs_rest R x xs false pairs = pairs

  kept_at : (P : A → Type 0) (xs : List A) (k : ℕ) (d : A) → AllByRecursion P (filter t xs) → k < length xs → t (get_or xs k d) ≡ true → P (get_or xs k d)
  kept_at P [] k d all low is = absurd (omega arith)
  kept_at P (x ∷ xs) zero d all low is = (subst (λ b. AllByRecursion P (cond b (x ∷ filter t xs) (filter t xs))) is all).0
  kept_at P (x ∷ xs) (suc k) d all low is = kept_at P xs k d (all_rest P x (filter t xs) (t x) all) (omega arith) is

  -- two kept items at places of a list
  pub kept_pair : (R : A → A → Type 0) (xs : List A) (i j : ℕ) (d : A) → ArePairs R (filter t xs) → i < j → j < length xs → t (get_or xs i d) ≡ true → t (get_or xs j d) ≡ true
      → R (get_or xs i d) (get_or xs j d)
  kept_pair R [] i j d pairs less low one other = absurd (omega arith)
  kept_pair R (x ∷ xs) i zero d pairs less low one other = absurd (omega arith)
  kept_pair R (x ∷ xs) zero (suc j) d pairs less low one other =
      kept_at (R x) xs j d (subst (λ b. ArePairs R (cond b (x ∷ filter t xs) (filter t xs))) one pairs).0 (omega arith) other
  kept_pair R (x ∷ xs) (suc i) (suc j) d pairs less low one other = kept_pair R xs i j d (pairs_rest R x (filter t xs) (t x) pairs) (omega arith) (omega arith) one other
