-- The told images of an involution tell all of its images.
use Rattle.std.proofs.Common.{◌≡◌, ℕ, zero, suc, ◌+◌, ◌<◌, ◌≤◌, cond, List, ◌∷◌, map, sym, ap, ◌∙◌, subst, ⊎_elim, arith}
use Rattle.std.proofs.lemmas.Bool.{cases_lt, le-leb, lt-leb}
use Rattle.std.specs.Prelude.{nat_le}
use Rattle.std.specs.List.{filter}
use Rattle.dd_model.specs.declared.index.Index.{Index}
use Rattle.dd_model.specs.Symbol.{Symbol, IsChamber, IsInvolution, op}
use Rattle.dd_model.specs.Code.{count_from}
use Rattle.dd_model.specs.Line.{told_images}

-- a map of 1 to n that undoes itself
record IsPairing (n : ℕ) (f : ℕ → ℕ) : Type 0 where
  within : (d : ℕ) → 1 ≤ d → d ≤ n → (1 ≤ f d) × (f d ≤ n)
  undone : (d : ℕ) → 1 ≤ d → d ≤ n → f (f d) ≡ d

abbrev tested : (ℕ → ℕ) → ℕ → ℕ → List ℕ
tested f k m = filter (λ d. nat_le d (f d)) (count_from k m)

abbrev told : (ℕ → ℕ) → ℕ → ℕ → List ℕ
told f k m = map f (tested f k m)

told_here : (f : ℕ → ℕ) (k m : ℕ) → k ≤ f k → told f k (suc m) ≡ f k ∷ told f (k + 1) m
told_here f k m h = ap (λ b. map f (cond b (k ∷ tested f (k + 1) m) (tested f (k + 1) m))) (le-leb k (f k) h)

told_later : (f : ℕ → ℕ) (k m : ℕ) → f k < k → told f k (suc m) ≡ told f (k + 1) m
told_later f k m h = ap (λ b. map f (cond b (k ∷ tested f (k + 1) m) (tested f (k + 1) m))) (lt-leb k (f k) h)

-- an image that is smaller was told before, so the other map has it too
earlier : (n : ℕ) (f g : ℕ → ℕ) (k : ℕ) → IsPairing n f → IsPairing n g → 1 ≤ k → k ≤ n → ((d : ℕ) → 1 ≤ d → d < k → f d ≡ g d) → f k < k → g k ≡ f k
earlier n f g k pf pg low high same h =
    let w = pf.within k low high in
    let back : g (f k) ≡ k = sym (same (f k) w.0 h) ∙ pf.undone k low high in
    sym (ap g back) ∙ pg.undone (f k) w.0 w.1

-- the maps agree at k too, and the rest of what is told is the same
record IsNext (f g : ℕ → ℕ) (k m : ℕ) : Type 0 where
  here : f k ≡ g k
  rest : told f (k + 1) m ≡ told g (k + 1) m

next : (n : ℕ) (f g : ℕ → ℕ) (k m : ℕ) → IsPairing n f → IsPairing n g → 1 ≤ k → k ≤ n → ((d : ℕ) → 1 ≤ d → d < k → f d ≡ g d)
    → told f k (suc m) ≡ told g k (suc m) → IsNext f g k m
next n f g k m pf pg low high same e =
    ⊎_elim
    (λ f_small.
    let here = earlier n f g k pf pg low high same f_small in
    let g_small : g k < k = subst (λ x. x < k) (sym here) f_small in
    record { here = sym here; rest = sym (told_later f k m f_small) ∙ e ∙ told_later g k m g_small })
    (λ f_large. ⊎_elim
    (λ g_small.
    let here = earlier n g f k pg pf low high (λ d l h. sym (same d l h)) g_small in
    absurd (omega (arith, here, f_large, g_small)))
    (λ g_large.
    let both : f k ∷ told f (k + 1) m ≡ g k ∷ told g (k + 1) m = sym (told_here f k m f_large) ∙ e ∙ told_here g k m g_large in
    record { here = cc; rest = cc })
    (cases_lt (g k) k))
    (cases_lt (f k) k)

told_all : (n : ℕ) (f g : ℕ → ℕ) (k m : ℕ) → IsPairing n f → IsPairing n g → 1 ≤ k → k + m ≡ n + 1 → ((d : ℕ) → 1 ≤ d → d < k → f d ≡ g d)
    → told f k m ≡ told g k m → (d : ℕ) → 1 ≤ d → d ≤ n → f d ≡ g d
told_all n f g k zero pf pg low e same told_same = λ d l h. same d l (omega arith)
told_all n f g k (suc m) pf pg low e same told_same =
    let both = next n f g k m pf pg low (omega arith) same told_same in
    told_all n f g (k + 1) m pf pg (omega arith) (omega arith)
    (λ d l h. ⊎_elim (λ before. same d l before) (λ at. let here : k ≡ d = omega arith in subst (λ x. f x ≡ g x) here both.here) (cases_lt d k))
    both.rest

pub same_from_told : (s t : Symbol) (i : Index) → s.size ≡ t.size → IsInvolution s i → IsInvolution t i → told_images s i ≡ told_images t i
    → (d : ℕ) → IsChamber s d → op s i d ≡ op t i d
same_from_told s t i size is it e d h =
    told_all s.size (op s i) (op t i) 1 s.size
    (record { within = λ x low high. is.within x (low, high); undone = λ x low high. is.involutive x (low, high) })
    (record {
      within = λ x low high. let w = it.within x (low, omega (arith, size, high)) in (w.0, omega (arith, w.1, size));
      undone = λ x low high. it.involutive x (low, omega (arith, size, high));
    })
    (omega arith) (omega arith) (λ x low high. absurd (omega arith))
    (e ∙ ap (λ n. map (op t i) (filter (λ x. nat_le x (op t i x)) (count_from 1 n))) (sym size))
    d h.0 h.1
