-- Ends of paths that are written in a list.
use Rattle.std.proofs.Common.{◌≡◌, ℕ, zero, suc, ◌<◌, Bool, List, [], ◌∷◌, Some, length, length-set, set, slice_get, refl, sym, ap, ◌∙◌, subst, ⊎_elim, arith}
use Rattle.std.proofs.lemmas.Bool.{cases_eq}
use Rattle.dd_model.specs.Symbol.{Symbol}
use Rattle.dd_model.specs.declared.pair.Pair.{Pair}
use Rattle.dd_model.specs.declared.requests.Request.{Request}
use Rattle.dd_branch_bounds.specs.Passing.{AreEndsOf}
use Rattle.dd_branch_bounds.specs.PathEnd.{PathEnd}
use Rattle.dd_branch_bounds.specs.Sides.{end_of}
use Rattle.dd_branch_bounds.specs.declared.class_shares.ClassShares.{ClassShares}
use Rattle.dd_branch_bounds.specs.declared.end.End.{End}
use Rattle.dd_branch_bounds.proofs.PutLemmas.{put, put_same, put_other, connected}

-- what stands at the flags
abbrev pub view : ClassShares → List End → ℕ → PathEnd
view t xs z = end_of t (slice_get xs z)

slice_get-set_same : (xs : List End) (i : ℕ) (e : End) → i < length xs → slice_get (set xs i e) i ≡ Some e
slice_get-set_same [] i e low = absurd (omega arith)
slice_get-set_same (x ∷ xs) zero e low = refl
slice_get-set_same (x ∷ xs) (suc i) e low = slice_get-set_same xs i e (omega arith)

slice_get-set_other : (xs : List End) (i z : ℕ) (e : End) → (z ≡ i → ⊥) → slice_get (set xs i e) z ≡ slice_get xs z
slice_get-set_other [] i z e away = refl
slice_get-set_other (x ∷ xs) zero zero e away = absurd (away refl)
slice_get-set_other (x ∷ xs) zero (suc z) e away = refl
slice_get-set_other (x ∷ xs) (suc i) zero e away = refl
slice_get-set_other (x ∷ xs) (suc i) (suc z) e away = slice_get-set_other xs i z e (λ same. away (ap suc same))

pub view_set : (t : ClassShares) (xs : List End) (i : ℕ) (e : End) → i < length xs → view t (set xs i e) ≡ put (view t xs) i (end_of t (Some e))
view_set t xs i e low = λ k z. at z k
  where
    at : (z : ℕ) → view t (set xs i e) z ≡ put (view t xs) i (end_of t (Some e)) z
    at z = ⊎_elim
        (λ same. ap (view t (set xs i e)) same ∙ ap (end_of t) (slice_get-set_same xs i e low) ∙ sym (put_same (view t xs) i (end_of t (Some e)) z same))
        (λ other. ap (end_of t) (slice_get-set_other xs i z e other) ∙ sym (put_other (view t xs) i (end_of t (Some e)) z other))
        (cases_eq z i)

-- two that are written
view_two : (t : ClassShares) (xs : List End) (i j : ℕ) (e d : End) → length xs ≡ 74 → i < 74 → j < 74
    → view t (set (set xs i e) j d) ≡ put (put (view t xs) i (end_of t (Some e))) j (end_of t (Some d))
view_two t xs i j e d long low also =
    let same = length-set xs i e in
    view_set t (set xs i e) j d (omega (arith, long, same, also)) ∙ ap (λ f. put f j (end_of t (Some d))) (view_set t xs i e (omega (arith, long, low)))

module _ (t : ClassShares) (xs : List End) (long : length xs ≡ 74) where
  pub two_written : (x m i j : ℕ) (n d : End) → x < 74 → m < 74 → i ≡ x → j ≡ m
      → view t (set (set xs i n) j d) ≡ put (put (view t xs) x (end_of t (Some n))) m (end_of t (Some d))
  two_written x m i j n d low also first second =
      ap (λ k. view t (set (set xs k n) j d)) first ∙ ap (λ k. view t (set (set xs x n) k d)) second ∙ view_two t xs x m n d long low also

  pub four_written : (x y m l a b i j : ℕ) (n o e d : End) → x < 74 → y < 74 → m < 74 → l < 74 → a ≡ x → b ≡ y → i ≡ m → j ≡ l
      → view t (set (set (set (set xs a n) b o) i e) j d) ≡ connected (view t xs) x y m l (end_of t (Some n)) (end_of t (Some o)) (end_of t (Some e)) (end_of t (Some d))
  four_written x y m l a b i j n o e d x_low y_low m_low l_low first second third fourth =
      let here : view t (set (set (set (set xs a n) b o) i e) j d) ≡ view t (set (set (set (set xs x n) y o) m e) l d) =
      ap (λ k. view t (set (set (set (set xs k n) b o) i e) j d)) first ∙ ap (λ k. view t (set (set (set (set xs x n) k o) i e) j d)) second
      ∙ ap (λ k. view t (set (set (set (set xs x n) y o) k e) j d)) third ∙ ap (λ k. view t (set (set (set (set xs x n) y o) m e) k d)) fourth in
      let same = length-set xs x n in
      let again = length-set (set xs x n) y o in
      let two = view_two t (set (set xs x n) y o) m l e d (again ∙ same ∙ long) m_low l_low in
      let under = ap (λ f. put (put f m (end_of t (Some e))) l (end_of t (Some d))) (view_two t xs x y n o long x_low y_low) in
      here ∙ two ∙ under

module _ (t : ClassShares) (q : Request) (P : Symbol) (test : Symbol → Bool) (p : Pair) (xs : List End) (more : ℕ) (long : length xs ≡ 74) where
  pub kept_two : (x m i j : ℕ) (n d : End) → x < 74 → m < 74 → i ≡ x → j ≡ m
      → AreEndsOf q P test p (put (put (view t xs) x (end_of t (Some n))) m (end_of t (Some d))) more → AreEndsOf q P test p (view t (set (set xs i n) j d)) more
  kept_two x m i j n d low also first second are =
      subst (λ f. AreEndsOf q P test p f more) (sym (two_written t xs long x m i j n d low also first second)) are

  pub kept_four : (x y m l a b i j : ℕ) (n o e d : End) → x < 74 → y < 74 → m < 74 → l < 74 → a ≡ x → b ≡ y → i ≡ m → j ≡ l
      → AreEndsOf q P test p (connected (view t xs) x y m l (end_of t (Some n)) (end_of t (Some o)) (end_of t (Some e)) (end_of t (Some d))) more
      → AreEndsOf q P test p (view t (set (set (set (set xs a n) b o) i e) j d)) more
  kept_four x y m l a b i j n o e d x_low y_low m_low l_low first second third fourth are =
      subst (λ f. AreEndsOf q P test p f more) (sym (four_written t xs long x y m l a b i j n o e d x_low y_low m_low l_low first second third fourth)) are
