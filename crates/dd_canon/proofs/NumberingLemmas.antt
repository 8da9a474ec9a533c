-- The numbers of a traversal that compares nothing.
use Rattle.std.proofs.Common.{◌≡◌, ℕ, suc, ◌+◌, ◌-◌, ◌≤◌, List, [], ◌∷◌, length, refl, sym, ap, ◌∙◌, subst, arith}
use Rattle.std.specs.Ordering.{nat_cmp, ordering_then}
use Rattle.std.specs.declared.cmp.Ordering.{Ordering}
use Rattle.std.specs.declared.cmp.Ordering.TheVariants.{Equal}
use Rattle.dd_model.specs.declared.index.Index.{Index}
use Rattle.dd_model.specs.declared.index.Index.TheVariants.{Zero, One, Two}
use Rattle.dd_model.specs.Symbol.{Symbol, IsTable, IsChamber, AreInvolutions, item, op}
use Rattle.dd_model.specs.Connected.{Connected}
use Rattle.dd_model.specs.FirstVisit.{rows}
use Rattle.dd_canon.specs.Traversal.{IsVisit, IsMeeting, IsTraversal}
use Rattle.dd_canon.specs.Standing.{IsStep, IsNumbering, IsWhole}
use Rattle.dd_canon.proofs.StandingLemmas.{whole}
use Rattle.dd_canon.proofs.Traversals.{next_row}
use Rattle.dd_canon.proofs.VisitLemmas.{begun, row_done, start_kept}

pub numbering_begun : (s : Symbol) (start : ℕ) (order number : List ℕ) → order ≡ start ∷ [] → IsVisit s.size order number → IsNumbering s 1 order number
numbering_begun s start order number e v =
    let n : s.size ≡ s.size + 1 - 1 = omega arith in
    record { so_far = Equal; traversal = subst (λ m. IsTraversal s s order number 1 (λ u. rows u 1 m) Equal) n (begun s s start order number refl e v) }

-- an image is met, and nothing is compared with it
met : (s : Symbol) (i : Index) (k d p n : ℕ) (so_far : Ordering) (order order' number' : List ℕ) → p ≡ op s i d → d ≡ item order k → IsMeeting order order' number' p n
    → IsStep s s i k so_far order order' number' (ordering_then so_far (nat_cmp n (op s i k)))
met s i k d p n so_far order order' number' image there meeting = record {
  number = n;
  meeting = subst (λ z. IsMeeting order order' number' z n) (image ∙ ap (op s i) there) meeting;
  verdict = refl;
}

pub numbering_inside : (s : Symbol) (k : ℕ) (order number : List ℕ) → IsTable s → Connected s → IsNumbering s k order number → k ≤ s.size → k ≤ length order
numbering_inside s k order number is con numbering high = next_row s s order number k (λ u. rows u k (s.size + 1 - k)) numbering.so_far is con numbering.traversal high

-- the chamber with number k, of which the images are met
pub numbering_chamber : (s : Symbol) (k d : ℕ) (order number : List ℕ) → IsTable s → Connected s → IsVisit s.size order number → IsNumbering s k order number
    → 1 ≤ k → k ≤ s.size → d ≡ item order k → IsChamber s d
numbering_chamber s k d order number is con v numbering low high e =
    subst (IsChamber s) (sym e) (v.within k low (numbering_inside s k order number is con numbering high))

module _ (s : Symbol) (inv : AreInvolutions s) (k d p q r x y z : ℕ) (zero_ : p ≡ op s Zero d) (one_ : q ≡ op s One d) (two_ : r ≡ op s Two d) (order0 number0 order1 number1 order2 number2 order3 number3 : List ℕ) (low : 1 ≤ k) (high : k ≤ s.size)
    (here : k ≤ length order0) (numbering : IsNumbering s k order0 number0) (is : d ≡ item order0 k)
    (v1 : IsVisit s.size order1 number1) (one : IsMeeting order0 order1 number1 p x)
    (v2 : IsVisit s.size order2 number2) (two : IsMeeting order1 order2 number2 q y)
    (v3 : IsVisit s.size order3 number3) (three : IsMeeting order2 order3 number3 r z) where
  abbrev o1 : Ordering
  o1 = ordering_then numbering.so_far (nat_cmp x (op s Zero k))

  abbrev o2 : Ordering
  o2 = ordering_then o1 (nat_cmp y (op s One k))

  abbrev o3 : Ordering
  o3 = ordering_then o2 (nat_cmp z (op s Two k))

  is1 : d ≡ item order1 k
  is1 = is ∙ sym (one.kept k low here)

  here1 : k ≤ length order1
  here1 = let longer = one.longer in omega arith

  is2 : d ≡ item order2 k
  is2 = is1 ∙ sym (two.kept k low here1)

  step1 : IsStep s s Zero k numbering.so_far order0 order1 number1 o1
  step1 = met s Zero k d p x numbering.so_far order0 order1 number1 zero_ is one

  step2 : IsStep s s One k o1 order1 order2 number2 o2
  step2 = met s One k d q y o1 order1 order2 number2 one_ is1 two

  step3 : IsStep s s Two k o2 order2 order3 number3 o3
  step3 = met s Two k d r z o2 order2 order3 number3 two_ is2 three

  -- the images of one chamber more
  pub numbering_more : IsNumbering s (k + 1) order3 number3
  numbering_more =
      let rest : s.size + 1 - k ≡ suc (s.size - k) = omega arith in
      let left : s.size - k ≡ s.size + 1 - (k + 1) = omega arith in
      let before = subst (λ m. IsTraversal s s order0 number0 k (λ u. rows u k m) numbering.so_far) rest numbering.traversal in
      let after_ = row_done s s order0 number0 order1 number1 order2 number2 order3 number3 k numbering.so_far o1 o2 o3 inv before low here v1 step1 v2 step2 v3 step3 in
      record { so_far = o3; traversal = subst (λ m. IsTraversal s s order3 number3 (k + 1) (λ u. rows u (k + 1) m) o3) left after_ }

  -- the start stays
  pub start_stays : item order3 1 ≡ item order0 1
  start_stays =
      let begun0 = numbering.traversal.begun in
      let l1 = one.longer in
      let l2 = two.longer in
      start_kept s s Two k o2 o3 order2 order3 number3 (omega arith) step3 ∙ start_kept s s One k o1 o2 order1 order2 number2 (omega arith) step2
      ∙ start_kept s s Zero k numbering.so_far o1 order0 order1 number1 begun0 step1

-- at the end all chambers have the numbers of their first visits
pub numbering_whole : (s : Symbol) (start k : ℕ) (order number : List ℕ) → IsTable s → Connected s → k ≡ s.size → IsNumbering s (k + 1) order number → item order 1 ≡ start
    → IsWhole s start order number
numbering_whole s start k order number is con last numbering first =
    let none : s.size + 1 - (k + 1) ≡ 0 = omega arith in
    let done : IsTraversal s s order number (k + 1) (λ u. []) numbering.so_far = subst (λ m. IsTraversal s s order number (k + 1) (λ u. rows u (k + 1) m) numbering.so_far) none numbering.traversal in
    whole s s start order number numbering.so_far is con (subst (λ j. IsTraversal s s order number (j + 1) (λ u. []) numbering.so_far) last done) first
