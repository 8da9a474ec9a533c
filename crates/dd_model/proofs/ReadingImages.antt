-- An involution is known from its told images.
use Rattle.std.proofs.Common.{◌≡◌, ℕ, zero, suc, ◌+◌, ◌<◌, ◌≤◌, true, false, List, ◌∷◌, ⊎_elim, refl, sym, ap, ◌∙◌, subst, arith, leb}
use Rattle.std.specs.Prelude.{map, filter, nat_le}
use Rattle.std.proofs.lemmas.Bool.{cases_lt, le-leb, lt-leb}
use Rattle.dd_model.specs.Code.{count_from}
use Rattle.dd_model.proofs.Lists.{cons_head, cons_tail}

-- the images of n chambers from k on, each pair of chambers told once
abbrev pub told_from : (ℕ → ℕ) → ℕ → ℕ → List ℕ
told_from f k n = map f (filter (λ d. nat_le d (f d)) (count_from k n))

-- f leads from the numbers 1 to n to these, and twice back
pub record IsFold (n : ℕ) (f : ℕ → ℕ) : Type 0 where
  pub within : (d : ℕ) → 1 ≤ d → d ≤ n → (1 ≤ f d) × (f d ≤ n)
  pub back : (d : ℕ) → 1 ≤ d → d ≤ n → f (f d) ≡ d

pub told-yes : (f : ℕ → ℕ) (k n : ℕ) → k ≤ f k → told_from f k (suc n) ≡ f k ∷ told_from f (k + 1) n
told-yes f k n le = let e : leb k (f k) ≡ true = le-leb k (f k) le in rw e refl

pub told-no : (f : ℕ → ℕ) (k n : ℕ) → f k < k → told_from f k (suc n) ≡ told_from f (k + 1) n
told-no f k n lt = let e : leb k (f k) ≡ false = lt-leb k (f k) lt in rw e refl

-- one more argument at which two maps agree
agree_more : (f g : ℕ → ℕ) (k : ℕ) → ((d : ℕ) → 1 ≤ d → d < k → f d ≡ g d) → f k ≡ g k → (d : ℕ) → 1 ≤ d → d < k + 1 → f d ≡ g d
agree_more f g k below here d low high = ⊎_elim (λ lt. below d low lt) (λ ge. let e : d ≡ k = omega arith in subst (λ x. f x ≡ g x) (sym e) here) (cases_lt d k)

-- where the image of k under f is smaller, g takes k to the same
smaller_same : (n : ℕ) (f g : ℕ → ℕ) → IsFold n f → IsFold n g → (k : ℕ) → 1 ≤ k → k ≤ n → ((d : ℕ) → 1 ≤ d → d < k → f d ≡ g d) → f k < k → g k ≡ f k
smaller_same n f g a b k low high below lt =
    let there = a.within k low high in
    let same : g (f k) ≡ k = sym (below (f k) there.0 lt) ∙ a.back k low high in
    ap g (sym same) ∙ b.back (f k) there.0 there.1

-- Two involutions that tell the same images are equal.
pub told_same : (n : ℕ) (f g : ℕ → ℕ) → IsFold n f → IsFold n g → (k m : ℕ) → 1 ≤ k → k + m ≡ n + 1 → ((d : ℕ) → 1 ≤ d → d < k → f d ≡ g d)
    → told_from f k m ≡ told_from g k m → (d : ℕ) → 1 ≤ d → d < k + m → f d ≡ g d
told_same n f g a b k zero low size below e d pos lt = below d pos (omega arith)
told_same n f g a b k (suc m) low size below e d pos lt =
    ⊎_elim
    (λ f_small.
    let here : g k ≡ f k = smaller_same n f g a b k low (omega arith) below f_small in
    let g_small : g k < k = omega arith in
    told_same n f g a b (k + 1) m (omega arith) (omega arith) (agree_more f g k below (sym here)) (sym (told-no f k m f_small) ∙ e ∙ told-no g k m g_small) d pos (omega arith))
    (λ f_large. ⊎_elim
    (λ g_small.
    let here : f k ≡ g k = smaller_same n g f b a k low (omega arith) (λ x px lx. sym (below x px lx)) g_small in
    absurd (omega arith))
    (λ g_large.
    let both = sym (told-yes f k m f_large) ∙ e ∙ told-yes g k m g_large in
    told_same n f g a b (k + 1) m (omega arith) (omega arith) (agree_more f g k below (cons_head _ _ _ _ both)) (cons_tail _ _ _ _ both) d pos (omega arith))
    (cases_lt (g k) k))
    (cases_lt (f k) k)
