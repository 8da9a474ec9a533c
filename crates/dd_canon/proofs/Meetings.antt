-- Chambers are met and numbered, and the last one is left again.
use Rattle.std.proofs.Common.{◌≡◌, ℕ, ◌+◌, ◌-◌, ◌<◌, ◌≤◌, inl, inr, List, [], ◌∷◌, ◌++◌, length, set, refl, sym, ap, ◌∙◌, subst, ⊎_elim, arith}
use Rattle.std.proofs.lemmas.Bool.{cases_lt, cases_eq}
use Rattle.std.proofs.lemmas.Bool.Decides.{nat_tests}
use Rattle.std.proofs.lemmas.List.{get_or-set_same, get_or-set_other, length-set, get_or_append_left, get_or_push, length_push}
use Rattle.std.proofs.lemmas.List.Sums.{sum_by-set}
use Rattle.dd_model.specs.Symbol.{item}
use Rattle.dd_canon.specs.Traversal.{unnumbered, IsVisit, IsMeeting}

item_push_old : (order : List ℕ) (d k : ℕ) → 1 ≤ k → k ≤ length order → item (order ++ d ∷ []) k ≡ item order k
item_push_old order d k low high = get_or_append_left order (d ∷ []) 0 (k - 1) (omega arith)

item_push_new : (order : List ℕ) (d k : ℕ) → k ≡ length order + 1 → item (order ++ d ∷ []) k ≡ d
item_push_new order d k e = get_or_push order d 0 (k - 1) (omega arith)

item_set_same : (number : List ℕ) (d x : ℕ) → 1 ≤ d → d ≤ length number → item (set number (d - 1) x) d ≡ x
item_set_same number d x low high = get_or-set_same number (d - 1) x 0 (omega arith)

item_set_other : (number : List ℕ) (d e x : ℕ) → 1 ≤ d → 1 ≤ e → (e ≡ d → ⊥) → item (set number (d - 1) x) e ≡ item number e
item_set_other number d e x ld le apart = get_or-set_other number (d - 1) (e - 1) x 0 (λ same. apart (omega arith))

pub numbered_counts_not : (x : ℕ) → 1 ≤ x → unnumbered x ≡ 0
numbered_counts_not x h = grind (arith, nat_tests)

-- a chamber that had no number gets the next one
pub met_visit : (n : ℕ) (order number : List ℕ) (d : ℕ) → IsVisit n order number → 1 ≤ d → d ≤ n → item number d ≡ 0
    → IsVisit n (order ++ d ∷ []) (set number (d - 1) (length order + 1))
met_visit n order number d v ld hd none =
    let x = length order + 1 in
    let size = v.numbers in
    let longer = length_push order d in
    let apart : (e : ℕ) → 1 ≤ item number e → e ≡ d → ⊥ = λ e some same. let here : item number e ≡ 0 = ap (item number) same ∙ none in omega arith in
    record {
      numbers = length-set number (d - 1) x ∙ v.numbers;
      within = λ k low high. ⊎_elim
          (λ old. rw (item_push_old order d k low (omega arith)) (v.within k low (omega arith)))
          (λ new. rw (item_push_new order d k (omega arith)) (ld, hd))
          (cases_lt k x);
      numbered = λ k low high. ⊎_elim
          (λ old.
          let w = v.within k low (omega arith) in
          let is = v.numbered k low (omega arith) in
          ap (item (set number (d - 1) x)) (item_push_old order d k low (omega arith))
          ∙ item_set_other number d (item order k) x ld w.0 (apart (item order k) (omega arith))
          ∙ is)
          (λ new.
          let last : x ≡ k = omega arith in
          ap (item (set number (d - 1) x)) (item_push_new order d k (omega arith)) ∙ item_set_same number d x ld (omega arith) ∙ last)
          (cases_lt k x);
      ordered = λ e le he. ⊎_elim
          (λ here.
          let same : item (set number (d - 1) x) e ≡ x = ap (item (set number (d - 1) x)) here ∙ item_set_same number d x ld (omega arith) in
          inr (omega arith, omega arith, ap (item (order ++ d ∷ [])) same ∙ item_push_new order d x refl ∙ sym here))
          (λ other.
          let same : item (set number (d - 1) x) e ≡ item number e = item_set_other number d e x ld le other in
          ⊎_elim
          (λ zero. inl (same ∙ zero))
          (λ old. inr (omega (arith, old.0), omega (arith, old.1), ap (item (order ++ d ∷ [])) same ∙ item_push_old order d (item number e) old.0 old.1 ∙ old.2))
          (v.ordered e le he))
          (cases_eq e d);
      room =
          let sums = sum_by-set unnumbered number (d - 1) x 0 (omega arith) in
          let was : unnumbered (item number d) ≡ 1 = ap unnumbered none in
          let now : unnumbered x ≡ 0 = numbered_counts_not x (omega arith) in
          let room = v.room in
          omega arith;
    }

pub meeting_new : (n : ℕ) (order number : List ℕ) (d : ℕ) → IsVisit n order number → 1 ≤ d → d ≤ n
    → IsMeeting order (order ++ d ∷ []) (set number (d - 1) (length order + 1)) d (length order + 1)
meeting_new n order number d v ld hd =
    let size = v.numbers in
    let longer = length_push order d in
    record {
      longer = omega arith;
      kept = λ k low high. item_push_old order d k low high;
      number = item_set_same number d (length order + 1) ld (omega arith);
      positive = omega arith;
      at = item_push_new order d (length order + 1) refl;
      next = omega arith;
      top = omega arith;
    }

-- the chamber that was met last is one of 1 to n
pub last_inside : (n : ℕ) (order number : List ℕ) (d : ℕ) → IsVisit n (order ++ d ∷ []) number → (1 ≤ d) × (d ≤ n)
last_inside n order number d v =
    let longer = length_push order d in
    subst (λ e. (1 ≤ e) × (e ≤ n)) (item_push_new order d (length order + 1) refl) (v.within (length order + 1) (omega arith) (omega arith))

-- the chamber that was met last loses its number
pub left_visit : (n : ℕ) (order number : List ℕ) (d : ℕ) → IsVisit n (order ++ d ∷ []) number → IsVisit n order (set number (d - 1) 0)
left_visit n order number d v =
    let x = length order + 1 in
    let size = v.numbers in
    let longer = length_push order d in
    let last : item (order ++ d ∷ []) x ≡ d = item_push_new order d x refl in
    let here = last_inside n order number d v in
    let was : item number d ≡ x = ap (item number) (sym last) ∙ v.numbered x (omega arith) (omega arith) in
    let none : item (set number (d - 1) 0) d ≡ 0 = item_set_same number d 0 here.0 (omega (arith, here.1)) in
    let old : (k : ℕ) → 1 ≤ k → k ≤ length order → item number (item order k) ≡ k = λ k low high.
    ap (item number) (sym (item_push_old order d k low high)) ∙ v.numbered k low (omega arith) in
    let inside : (k : ℕ) → 1 ≤ k → k ≤ length order → (1 ≤ item order k) × (item order k ≤ n) = λ k low high.
    subst (λ e. (1 ≤ e) × (e ≤ n)) (item_push_old order d k low high) (v.within k low (omega arith)) in
    record {
      numbers = length-set number (d - 1) 0 ∙ v.numbers;
      within = inside;
      numbered = λ k low high.
          let is = old k low high in
          item_set_other number d (item order k) 0 here.0 (inside k low high).0 (λ same. let e : item number (item order k) ≡ x = ap (item number) same ∙ was in omega arith) ∙ is;
      ordered = λ e le he. ⊎_elim
          (λ same. inl (ap (item (set number (d - 1) 0)) same ∙ none))
          (λ other.
          let kept : item (set number (d - 1) 0) e ≡ item number e = item_set_other number d e 0 here.0 le other in
          ⊎_elim
          (λ zero. inl (kept ∙ zero))
          (λ some.
          let j = item number e in
          let early : j < x = ⊎_elim (λ h. h) (λ late. let end : x ≡ j = omega (arith, late, some.1) in absurd (other (sym some.2 ∙ ap (item (order ++ d ∷ [])) (sym end) ∙ last))) (cases_lt j x) in
          inr (omega (arith, some.0), omega arith, ap (item order) kept ∙ sym (item_push_old order d j some.0 (omega arith)) ∙ some.2))
          (v.ordered e le he))
          (cases_eq e d);
      room =
          let sums = sum_by-set unnumbered number (d - 1) 0 0 (omega (arith, here)) in
          let before : unnumbered (item number d) ≡ 0 = numbered_counts_not (item number d) (omega arith) in
          let now : unnumbered 0 ≡ 1 = refl in
          let room = v.room in
          omega arith;
    }
