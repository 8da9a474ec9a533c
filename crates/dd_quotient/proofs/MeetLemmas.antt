-- What a map of signatures keeps.
use Rattle.std.proofs.Common.{◌≡◌, ℕ, ◌+◌, ◌-◌, ◌≤◌, ◌++◌, [], ◌∷◌, length, subst, ◌⊎◌, Bool, true, false, List, Option, Some, None, cond, refl, sym, ap, ◌∙◌, inl, inr, ⊎_elim, arith}
use Rattle.std.proofs.lemmas.Bool.{cases_lt}
use Rattle.std.proofs.lemmas.List.{get_or_push, get_or_append_left, length-append}
use Rattle.std.specs.Ordering.{nat_cmp, is_eq}
use Rattle.std.specs.Cmp.Lexicographic.{slice_cmp}
use Rattle.std.specs.BTreeMap.{BTreeMap}
use Rattle.std.proofs.lemmas.Map.Text.{is_eq-slice_cmp}
use Rattle.std.proofs.lemmas.Slice.Eq.{bytes_eq-Decides}
use Rattle.dd_model.specs.Symbol.{Symbol, IsChamber, item}
use Rattle.dd_model.proofs.Options.{some_same}
use Rattle.dd_quotient.specs.Alike.{IsMet, IsRefined, first_of, signature}

same_key : (xs ys : List ℕ) → is_eq (slice_cmp nat_cmp xs ys) ≡ true → xs ≡ ys
same_key xs ys h = (bytes_eq-Decides xs ys).0 (sym (is_eq-slice_cmp xs ys) ∙ h)

key_itself : (xs : List ℕ) → is_eq (slice_cmp nat_cmp xs xs) ≡ true
key_itself xs = is_eq-slice_cmp xs xs ∙ (bytes_eq-Decides xs xs).1 refl

pick : (b : Bool) (o : Option ℕ) (d e : ℕ) → cond b (Some d) o ≡ Some e → ((b ≡ true) × (e ≡ d)) ⊎ (o ≡ Some e)
pick true o d e h = inl (refl, cc)
pick false o d e h = inr h

keep : (b : Bool) (o : Option ℕ) (d e : ℕ) → (b ≡ true → o ≡ None) → o ≡ Some e → cond b (Some d) o ≡ Some e
keep true o d e none h = let n = none refl in absurd (cc)
keep false o d e none h = h

-- a chamber is kept for a signature that had none
pub met_new : (m n : BTreeMap (List ℕ) ℕ) (own : List ℕ) (d : ℕ)
    → ((q : List ℕ) → first_of n q ≡ cond (is_eq (slice_cmp nat_cmp own q)) (Some d) (first_of m q)) → first_of m own ≡ None → IsMet m n own d d
met_new m n own d updated none = record {
  here = updated own ∙ ap (λ b. cond b (Some d) (first_of m own)) (key_itself own);
  found = λ q e h.
      ⊎_elim
      (λ new. inr (sym (same_key own q new.0), new.1))
      (λ old. inl old)
      (pick (is_eq (slice_cmp nat_cmp own q)) (first_of m q) d e (sym (updated q) ∙ h));
  kept = λ q e h.
      updated q ∙ keep (is_eq (slice_cmp nat_cmp own q)) (first_of m q) d e (λ yes. ap (first_of m) (sym (same_key own q yes)) ∙ none) h;
}

-- the first k chambers have the least chambers with their signatures
pub record AreFirsts (s : Symbol) (c : List ℕ) (m : BTreeMap (List ℕ) ℕ) (f : List ℕ) (k : ℕ) : Type 0 where
  pub images : length f ≡ k
  pub found : (q : List ℕ) (e : ℕ) → first_of m q ≡ Some e → (1 ≤ e) × (e ≤ k) × (signature s c e ≡ q)
  pub kept : (d : ℕ) → 1 ≤ d → d ≤ k → first_of m (signature s c d) ≡ Some (item f d)
  pub low : (d : ℕ) → 1 ≤ d → d ≤ k → item f d ≤ d

-- one chamber more
pub firsts_more : (s : Symbol) (c : List ℕ) (m n : BTreeMap (List ℕ) ℕ) (f : List ℕ) (k x : ℕ) (q : List ℕ)
    → AreFirsts s c m f k → q ≡ signature s c (k + 1) → IsMet m n q (k + 1) x → AreFirsts s c n (f ++ x ∷ []) (k + 1)
firsts_more s c m n f k x q i own met =
    let li = i.images in
    let size : length (f ++ x ∷ []) ≡ length f + 1 = length-append f (x ∷ []) in
    let last : item (f ++ x ∷ []) (k + 1) ≡ x = get_or_push f x 0 (k + 1 - 1) (omega arith) in
    let earlier : (d : ℕ) → 1 ≤ d → d ≤ k → item (f ++ x ∷ []) d ≡ item f d = λ d low high. get_or_append_left f (x ∷ []) 0 (d - 1) (omega (arith, li)) in
    let origin : (p : List ℕ) (e : ℕ) → first_of n p ≡ Some e → (1 ≤ e) × (e ≤ k + 1) × (signature s c e ≡ p) = λ p e h.
    ⊎_elim
    (λ old. let o = i.found p e old in let low = o.0 in let high = o.1 in (low, omega arith, o.2))
    (λ new. let here : e ≡ k + 1 = new.1 in (omega arith, omega arith, ap (signature s c) here ∙ sym own ∙ sym new.0))
    (met.found p e h) in
    record {
      images = omega (arith, li, size);
      found = origin;
      kept = λ d low high.
          ⊎_elim
          (λ below.
          met.kept (signature s c d) (item f d) (i.kept d low (omega arith)) ∙ ap (λ y. Some y) (sym (earlier d low (omega arith))))
          (λ above.
          let same : d ≡ k + 1 = omega arith in
          subst (λ e. first_of n (signature s c e) ≡ Some (item (f ++ x ∷ []) e)) (sym same)
          (ap (first_of n) (sym own) ∙ met.here ∙ ap (λ y. Some y) (sym last)))
          (cases_lt d (k + 1));
      low = λ d low high.
          ⊎_elim
          (λ below. let e = earlier d low (omega arith) in let l = i.low d low (omega arith) in omega (arith, e, l))
          (λ above.
          let same : d ≡ k + 1 = omega arith in
          let o = origin q x met.here in
          let high_x : x ≤ k + 1 = o.1 in
          let e : item (f ++ x ∷ []) d ≡ x = ap (item (f ++ x ∷ [])) same ∙ last in
          omega (arith, e, high_x, same))
          (cases_lt d (k + 1));
    }

-- all chambers have the least chambers with their signatures
pub firsts_refine : (s : Symbol) (c : List ℕ) (m : BTreeMap (List ℕ) ℕ) (f : List ℕ) → AreFirsts s c m f s.size → IsRefined s c f
firsts_refine s c m f i =
    let origin : (d : ℕ) → IsChamber s d → (1 ≤ item f d) × (item f d ≤ s.size) × (signature s c (item f d) ≡ signature s c d) =
    λ d h. i.found (signature s c d) (item f d) (i.kept d h.0 h.1) in
    record {
      images = i.images;
      within = λ d h. ((origin d h).0, (origin d h).1);
      low = λ d h. i.low d h.0 h.1;
      member = λ d h. (origin d h).2;
      same = λ d e h k same. some_same _ _ (sym (i.kept d h.0 h.1) ∙ ap (first_of m) same ∙ i.kept e k.0 k.1);
    }
