-- Automorphisms keep the numbering by first visits from a start, so one start of each orbit is enough.
use Rattle.std.proofs.Common.{◌≡◌, ◌≢◌, ◌⊎◌, ℕ, zero, suc, Bool, true, false, cond, ◌+◌, ◌-◌, ◌<◌, ◌≤◌, inl, inr, List, length, get_or, refl, sym, ap, ◌∙◌, subst, ⊎_elim, arith}
use Rattle.std.proofs.lemmas.Bool.{cases_lt, cases_eq}
use Rattle.std.proofs.lemmas.Bool.Decides.{nat_tests}
use Rattle.std.proofs.lemmas.Cmp.{tied_itself}
use Rattle.std.specs.Ordering.{is_eq}
use Rattle.std.specs.declared.cmp.Ordering.TheVariants.{Greater}
use Rattle.dd_model.specs.Symbol.{Symbol, IsTable, IsChamber, item}
use Rattle.dd_model.specs.Connected.{Connected}
use Rattle.dd_model.specs.Isomorphic.{IsIsomorphism}
use Rattle.dd_model.specs.Code.{code_cmp}
use Rattle.dd_model.specs.FirstVisit.{IsNumberedFrom}
use Rattle.dd_union_find.specs.Parts.{AreInOnePart, AreJoinedAt, AreJoinedAlong}
use Rattle.dd_model.proofs.Bijections.{after, item-after}
use Rattle.dd_model.proofs.Codes.{code_cmp_total, same_from_code_cmp}
use Rattle.dd_model.proofs.Isomorphisms.{inverse_isomorphism, IsIsomorphism-after}
use Rattle.dd_model.proofs.LeastForms.{numbered_unique}
use Rattle.dd_model.proofs.Numberings.{numbered_from}
use Rattle.dd_canon.specs.Traversal.{unnumbered}
use Rattle.dd_canon.specs.Standing.{IsBestTo, IsWhole}
use Rattle.dd_canon.specs.Best.{IsKept, AreOrbits}
use Rattle.dd_canon.proofs.FormLemmas.{reached_back, through_form}
use Rattle.dd_canon.proofs.OrderLemmas.{equal_from}

-- ## Automorphisms and codes

pub numbering_kept : (s t : Symbol) (f : List ℕ) (start : ℕ) → IsTable s → IsChamber s start → IsIsomorphism s s f → IsNumberedFrom s start t → IsNumberedFrom s (item f start) t
numbering_kept s t f start is h iso a =
    let b = iso.bijection in
    let there = b.left.within start h.0 h.1 in
    record {
      table = a.table;
      map = after a.map b.inverse;
      isomorphism = IsIsomorphism-after s s t b.inverse a.map is (inverse_isomorphism s s f is iso) a.isomorphism;
      start_first =
          item-after a.map b.inverse s.size (item f start) b.inverse_images there.0 there.1
          ∙ ap (item a.map) (b.left.undone start h.0 h.1) ∙ a.start_first;
      first_visit = a.first_visit;
    }

pub automorphism_found : (s t : Symbol) (start other : ℕ) → IsTable s → IsChamber s start → IsChamber s other → IsNumberedFrom s start t → IsNumberedFrom s other t
    → (f : List ℕ) × IsIsomorphism s s f × (item f start ≡ other)
automorphism_found s t start other is h h' a a' =
    let b = a'.isomorphism.bijection in (
      after b.inverse a.map,
      IsIsomorphism-after s t s a.map b.inverse is a.isomorphism (inverse_isomorphism s t a'.map is a'.isomorphism),
      item-after b.inverse a.map s.size start a.isomorphism.bijection.images h.0 h.1
          ∙ ap (item b.inverse) (a.start_first ∙ sym a'.start_first) ∙ b.left.undone other h'.0 h'.1,
    )

-- ## The least start with the same code

-- the first number from k on, of n of them, that passes
abbrev first_of : (ℕ → Bool) → ℕ → ℕ → ℕ
first_of p zero k = k
first_of p (suc n) k = cond (p k) k (first_of p n (suc k))

first_passes : (p : ℕ → Bool) (n k j : ℕ) → k ≤ j → j < k + n → p j ≡ true → p (first_of p n k) ≡ true
first_passes p zero k j low high passes = absurd (omega arith)
first_passes p (suc n) k j low high passes = by_test (p k) refl (first_passes p n (suc k) j) where
  by_test : (b : Bool) → p k ≡ b → (suc k ≤ j → j < suc k + n → p j ≡ true → p (first_of p n (suc k)) ≡ true) → p (cond b k (first_of p n (suc k))) ≡ true
  by_test true e later = e
  by_test false e later =
      ⊎_elim
      (λ same. let here : p j ≡ false = ap p (sym same) ∙ e in cc)
      (λ other. later (omega arith) (omega arith) passes)
      (cases_eq k j)

chamber_or_not : (s : Symbol) (d : ℕ) → IsChamber s d ⊎ (IsChamber s d → ⊥)
chamber_or_not s d =
    ⊎_elim
    (λ zeroth. inr (λ h. let low = h.0 in omega arith))
    (λ some. ⊎_elim (λ beyond. inr (λ h. let high = h.1 in omega arith)) (λ inside. inl (some, inside)) (cases_lt s.size d))
    (cases_lt d 1)

module _ (s : Symbol) (is : IsTable s) (con : Connected s) where
  -- the symbol in the numbers from a start; s itself where there is no such chamber
  abbrev form_at : (d : ℕ) → IsChamber s d ⊎ (IsChamber s d → ⊥) → Symbol
  form_at d (inl here) = (numbered_from s d is con here).0
  form_at d (inr none) = s

  form_at_table : (d : ℕ) (c : IsChamber s d ⊎ (IsChamber s d → ⊥)) → IsTable (form_at d c)
  form_at_table d (inl here) = (numbered_from s d is con here).1.table
  form_at_table d (inr none) = is

  form_at_numbered : (d : ℕ) (c : IsChamber s d ⊎ (IsChamber s d → ⊥)) → IsChamber s d → IsNumberedFrom s d (form_at d c)
  form_at_numbered d (inl here) h = (numbered_from s d is con here).1
  form_at_numbered d (inr none) h = absurd (none h)

  abbrev form_from : ℕ → Symbol
  form_from d = form_at d (chamber_or_not s d)

  form_numbered : (d : ℕ) → IsChamber s d → IsNumberedFrom s d (form_from d)
  form_numbered d h = form_at_numbered d (chamber_or_not s d) h

  form_kept : (f : List ℕ) (d : ℕ) → IsIsomorphism s s f → IsChamber s d → form_from (item f d) ≡ form_from d
  form_kept f d iso h =
      let there = iso.morphism.within d h in
      numbered_unique s (form_from (item f d)) (form_from d) (item f d) is con there (form_numbered (item f d) there) (numbering_kept s (form_from d) f d is h iso (form_numbered d h))

  abbrev has_code : Symbol → ℕ → Bool
  has_code t e = is_eq (code_cmp (form_from e) t)

  -- the least start that has the code of a start
  abbrev least_start : ℕ → ℕ
  least_start d = first_of (has_code (form_from d)) (s.size + 1) 0

  least_start_kept : IsKept s least_start
  least_start_kept f d iso h = ap (λ t. first_of (has_code t) (s.size + 1) 0) (form_kept f d iso h)

  least_has_code : (d : ℕ) → IsChamber s d → form_from (least_start d) ≡ form_from d
  least_has_code d h =
      let high = h.1 in
      let found = first_passes (has_code (form_from d)) (s.size + 1) 0 d (omega arith) (omega arith) (ap is_eq (tied_itself code_cmp_total (form_from d))) in
      same_from_code_cmp (form_from (least_start d)) (form_from d) (form_at_table (least_start d) (chamber_or_not s (least_start d))) (form_at_table d (chamber_or_not s d))
      (equal_from (code_cmp (form_from (least_start d)) (form_from d)) found)

  same_form : (d e : ℕ) → IsChamber s d → IsChamber s e → least_start d ≡ least_start e → form_from d ≡ form_from e
  same_form d e h h' same = sym (least_has_code d h) ∙ ap form_from same ∙ least_has_code e h'

  -- a start that is joined with a smaller one gives nothing that is better
  pub left_out : (t : Symbol) (above : List ℕ) (start e : ℕ) → AreOrbits s above → IsBestTo s (start - 1) t → IsChamber s start → e < start → AreInOnePart above e start → IsBestTo s start t
  left_out t above start e orbits best h less part =
      let some : unnumbered e ≡ unnumbered start = part unnumbered (orbits.level unnumbered (λ f d iso here. counted (item f d) d (iso.morphism.within d here) here)) in
      let positive = chamber_of e (some ∙ not_counted start h.0) in
      let high = h.1 in
      let he : IsChamber s e = (positive, omega arith) in
      let same = same_form e start he h (part least_start (orbits.level least_start least_start_kept)) in
      record {
        best = λ d u low up a. ⊎_elim
            (λ early. best.best d u low (omega arith) a)
            (λ late.
            let at : d ≡ start = omega arith in
            let is_form : form_from start ≡ u = numbered_unique s (form_from start) u start is con h (form_numbered start h) (subst (λ c. IsNumberedFrom s c u) at a) in
            subst (λ v. code_cmp t v ≢ Greater) (same ∙ is_form) (best.best e (form_from e) positive (omega arith) (form_numbered e he)))
            (cases_lt d start);
      }
    where
      not_counted : (d : ℕ) → 1 ≤ d → unnumbered d ≡ 0
      not_counted d low = grind (arith, nat_tests)

      counted : (d e : ℕ) → IsChamber s d → IsChamber s e → unnumbered d ≡ unnumbered e
      counted d e h h' = not_counted d h.0 ∙ sym (not_counted e h'.0)

      chamber_of : (d : ℕ) → unnumbered d ≡ 0 → 1 ≤ d
      chamber_of d e = grind (arith, nat_tests)

-- ## A tie

module _ (s t : Symbol) (is : IsTable s) (home there : ℕ) (order0 number0 order1 number1 : List ℕ) (whole0 : IsWhole s home order0 number0) (whole1 : IsWhole s there order1 number1)
    (iso0 : IsIsomorphism s t number0) (iso1 : IsIsomorphism s t number1) where
  -- the chamber with a number in one numbering goes to the chamber with this number in the other one
  automorphism : IsIsomorphism s s (after order1 number0)
  automorphism = through_form s s t number0 order1 is iso0 (reached_back s t there order1 number1 is whole1 iso1)

  carried : (k : ℕ) → 1 ≤ k → k ≤ s.size → item (after order1 number0) (item order0 k) ≡ item order1 k
  carried k low high =
      let w = whole0.inverse.right.within k low high in
      item-after order1 number0 s.size (item order0 k) whole0.inverse.images w.0 w.1 ∙ ap (item order1) (whole0.inverse.right.undone k low high)

  kept_along : (h : ℕ → ℕ) → IsKept s h → (k : ℕ) → k < s.size → h (get_or order0 k 0) ≡ h (get_or order1 k 0)
  kept_along h kept k low =
      let back : k + 1 - 1 ≡ k = omega arith in
      let w = whole0.inverse.right.within (k + 1) (omega arith) (omega arith) in
      let here : h (item order1 (k + 1)) ≡ h (item order0 (k + 1)) =
      ap h (sym (carried (k + 1) (omega arith) (omega arith))) ∙ kept (after order1 number0) (item order0 (k + 1)) automorphism w in
      subst (λ j. h (get_or order0 j 0) ≡ h (get_or order1 j 0)) back (sym here)

  pub joined_orbits : (old new : List ℕ) (n : ℕ) → n ≡ s.size → AreOrbits s old → AreJoinedAlong old order0 order1 n new → AreOrbits s new
  joined_orbits old new n e orbits joined = record {
    nodes = joined.lengths ∙ orbits.nodes;
    level = λ h kept. joined.to h (orbits.level h kept) (λ k low. kept_along h kept k (omega arith));
  }

-- the chambers of an order are nodes
pub order_inside : (s : Symbol) (start : ℕ) (order number above : List ℕ) (k : ℕ) → IsWhole s start order number → AreOrbits s above → k < s.size → get_or order k 0 < length above
order_inside s start order number above k whole orbits low =
    let nodes = orbits.nodes in
    let back : k + 1 - 1 ≡ k = omega arith in
    let w = (whole.inverse.right.within (k + 1) (omega arith) (omega arith)).1 in
    let here : get_or order k 0 ≤ s.size = subst (λ j. get_or order j 0 ≤ s.size) back w in
    omega arith

-- ## A known automorphism

-- the chamber k + 1 is joined with its image
pub joined_image : (s : Symbol) (f old new : List ℕ) (k : ℕ) → IsIsomorphism s s f → k < s.size → AreOrbits s old → AreJoinedAt old (k + 1) (get_or f k 0) new → AreOrbits s new
joined_image s f old new k iso low orbits joined =
    let back : k + 1 - 1 ≡ k = omega arith in
    record {
      nodes = joined.lengths ∙ orbits.nodes;
      level = λ h kept. joined.to h (orbits.level h kept)
          (sym (subst (λ j. h (get_or f j 0) ≡ h (k + 1)) back (kept f (k + 1) iso (omega arith, omega arith))));
    }

pub image_inside : (s : Symbol) (f : List ℕ) (above : List ℕ) (k : ℕ) → IsIsomorphism s s f → k < s.size → AreOrbits s above → get_or f k 0 < length above
image_inside s f above k iso low orbits =
    let nodes = orbits.nodes in
    let back : k + 1 - 1 ≡ k = omega arith in
    let here : get_or f k 0 ≤ s.size = subst (λ j. get_or f j 0 ≤ s.size) back (iso.morphism.within (k + 1) (omega arith, omega arith)).1 in
    omega arith
