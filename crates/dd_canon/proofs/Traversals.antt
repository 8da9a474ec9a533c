-- The steps of a traversal, and what its end says.
use Rattle.std.proofs.Common.{◌≡◌, ℕ, suc, ◌+◌, ◌-◌, ◌<◌, ◌≤◌, List, [], ◌∷◌, ◌++◌, length, get_or, max, refl, sym, ap, ◌∙◌, subst, ⊎_elim, arith}
use Rattle.std.proofs.lemmas.Bool.{cases_lt}
use Rattle.std.proofs.lemmas.Bool.Decides.{nat_tests}
use Rattle.std.proofs.lemmas.List.{append_assoc}
use Rattle.std.proofs.lemmas.List.Sums.{sum_by-cons}
use Rattle.std.specs.List.{sum_by}
use Rattle.std.specs.Cmp.{nat_cmp_is}
use Rattle.std.specs.Ordering.{nat_cmp, ordering_then}
use Rattle.std.specs.Cmp.Lexicographic.{slice_cmp}
use Rattle.std.specs.declared.cmp.Ordering.{Ordering}
use Rattle.std.specs.declared.cmp.Ordering.TheVariants.{Less, Equal, Greater}
use Rattle.dd_model.specs.declared.index.Index.{Index}
use Rattle.dd_model.specs.Symbol.{Symbol, IsTable, AreInvolutions, IsChamber, Word, item, op, act}
use Rattle.dd_model.specs.Connected.{Connected}
use Rattle.dd_model.specs.Isomorphic.{Undoes, IsIsomorphism}
use Rattle.dd_model.specs.Code.{code, code_cmp}
use Rattle.dd_model.specs.FirstVisit.{Grows, IsFirstVisit, rows}
use Rattle.dd_canon.specs.Traversal.{unnumbered, IsVisit, IsMeeting, IsExtension, IsTraversal}
use Rattle.dd_model.proofs.Words.{backwards, act-backwards}
use Rattle.dd_model.proofs.FirstVisits.{injective}
use Rattle.dd_model.proofs.Orders.{then_assoc}

narrower : (s : Symbol) (order order' number' : List ℕ) (d x : ℕ) (t : Symbol) (f : List ℕ) → IsMeeting order order' number' d x → IsExtension s order' t f → IsExtension s order t f
narrower s order order' number' d x t f meets ext = record {
  isomorphism = ext.isomorphism;
  begins = λ k low high. let l = meets.longer in ap (item f) (sym (meets.kept k low high)) ∙ ext.begins k low (omega arith);
}

-- the next image in the new numbers is the number that was given
entry : (s : Symbol) (order order' number' : List ℕ) (k : ℕ) (i : Index) (x : ℕ) (t : Symbol) (f : List ℕ) → IsChamber s (item order k) → 1 ≤ k → k ≤ length order
    → IsMeeting order order' number' (op s i (item order k)) x → IsExtension s order' t f → op t i k ≡ x
entry s order order' number' k i x t f h low high meets ext =
    let top = meets.top in
    let old = narrower s order order' number' (op s i (item order k)) x t f meets ext in
    ap (op t i) (sym (old.begins k low high))
    ∙ sym (ext.isomorphism.morphism.op i (item order k) h)
    ∙ ap (item f) (sym meets.at)
    ∙ ext.begins x meets.positive (omega arith)

-- a number that was given stays
pub still_numbered : (n : ℕ) (order number order' number' : List ℕ) (d x e : ℕ) → IsVisit n order number → IsVisit n order' number' → IsMeeting order order' number' d x
    → 1 ≤ e → e ≤ n → 1 ≤ item number e → item number' e ≡ item number e
still_numbered n order number order' number' d x e v v' meets le he some =
    ⊎_elim
    (λ none. absurd (omega arith))
    (λ old.
    let l = meets.longer in
    let same : item order' (item number e) ≡ e = meets.kept (item number e) old.0 old.1 ∙ old.2 in
    sym (ap (item number') same) ∙ v'.numbered (item number e) old.0 (omega (arith, old.1)))
    (v.ordered e le he)

-- what is numbered by first visits goes on as the traversal does
forced_on : (s t : Symbol) (f order number order' number' : List ℕ) (k : ℕ) (i : Index) (x : ℕ) → AreInvolutions s → IsIsomorphism s t f
    → IsVisit s.size order number → IsVisit s.size order' number' → IsChamber s (item order k) → 1 ≤ k → k ≤ length order
    → IsMeeting order order' number' (op s i (item order k)) x → IsExtension s order t f → op t i k ≤ length order + 1 → IsExtension s order' t f
forced_on s t f order number order' number' k i x inv iso v v' h low high meets ext next =
    let d = op s i (item order k) in
    let hd = (inv i).within (item order k) h in
    let image : item f d ≡ op t i k = iso.morphism.op i (item order k) h ∙ ap (op t i) (ext.begins k low high) in
    let hf = iso.bijection.left.within d hd.0 hd.1 in
    let top = meets.top in
    let limit = meets.next in
    let longer = meets.longer in
    record {
      isomorphism = iso;
      begins = λ j lj hj. ⊎_elim
          (λ old. ap (item f) (meets.kept j lj (omega arith)) ∙ ext.begins j lj (omega arith))
          (λ new.
          let last : j ≡ x = omega arith in
          let here : item order' j ≡ d = ap (item order') last ∙ meets.at in
          ⊎_elim
          (λ early.
          let again : item f (item order (item f d)) ≡ item f d = ext.begins (item f d) hf.0 (omega arith) in
          let there : item order (item f d) ≡ d = injective s t f iso (item order (item f d)) d (v.within (item f d) hf.0 (omega arith)) hd again in
          let there' : item order' (item f d) ≡ d = meets.kept (item f d) hf.0 (omega arith) ∙ there in
          let same : item f d ≡ x = sym (v'.numbered (item f d) hf.0 (omega arith)) ∙ ap (item number') there' ∙ meets.number in
          absurd (omega arith))
          (λ late. let e : item f d ≡ j = omega arith in ap (item f) here ∙ e)
          (cases_lt (item f d) (length order + 1)))
          (cases_lt j (length order + 1));
    }

-- one image more
pub advance : (s b : Symbol) (order number order' number' : List ℕ) (c k : ℕ) (i : Index) (rest : Symbol → List ℕ) (o : Ordering) (x : ℕ) → AreInvolutions s → 1 ≤ k → k ≤ length order
    → IsTraversal s b order number c (λ u. op u i k ∷ rest u) o → IsVisit s.size order' number' → IsMeeting order order' number' (op s i (item order k)) x → c ≤ k
    → IsTraversal s b order' number' c rest (ordering_then o (nat_cmp x (op b i k)))
advance s b order number order' number' c k i rest o x inv low high tr v' meets early =
    let v = tr.visit in
    let d = op s i (item order k) in
    let hk : IsChamber s (item order k) = v.within k low high in
    let begun = tr.begun in
    let longer = meets.longer in
    let top = meets.top in
    let limit = meets.next in
    record {
      visit = v';
      begun = omega arith;
      closed = λ i' j lj hj hj'.
          let w = v.within j lj (omega arith) in
          let hw = (inv i').within (item order j) w in
          let old = tr.closed i' j lj hj (omega arith) in
          let same = still_numbered s.size order number order' number' d x (op s i' (item order j)) v v' meets hw.0 hw.1 old in
          rw (meets.kept j lj (omega arith)) (subst (λ z. 1 ≤ z) (sym same) old);
      decides = λ t f ext grows.
          let e : op t i k ≡ x = entry s order order' number' k i x t f hk low high meets ext in
          tr.decides t f (narrower s order order' number' d x t f meets ext)
          (omega arith, subst (λ m. Grows m (rest t)) (top ∙ ap (λ z. max (length order) z) (sym e)) grows);
      forced = λ t f iso one first.
          let old = tr.forced t f iso (sym (ap (item f) (meets.kept 1 (omega arith) begun)) ∙ one) first in
          let ext = forced_on s t f order number order' number' k i x inv iso v v' hk low high meets old.0 old.1.0 in
          let e : op t i k ≡ x = entry s order order' number' k i x t f hk low high meets ext in
          (ext, subst (λ m. Grows m (rest t)) (sym (top ∙ ap (λ z. max (length order) z) (sym e))) old.1.1);
      verdict = λ t f ext.
          let e : op t i k ≡ x = entry s order order' number' k i x t f hk low high meets ext in
          let later = slice_cmp nat_cmp (rest t ++ (t.m01 ++ t.m12)) (rest b ++ (b.m01 ++ b.m12)) in
          tr.verdict t f (narrower s order order' number' d x t f meets ext)
          ∙ ap (λ z. ordering_then o (ordering_then (nat_cmp z (op b i k)) later)) e
          ∙ sym (then_assoc o (nat_cmp x (op b i k)) later);
    }

-- the row of chamber k is done
pub close : (s b : Symbol) (order number : List ℕ) (k : ℕ) (rest : Symbol → List ℕ) (o : Ordering) → IsTraversal s b order number k rest o
    → ((i : Index) → 1 ≤ item number (op s i (item order k))) → IsTraversal s b order number (k + 1) rest o
close s b order number k rest o tr here = record {
  visit = tr.visit;
  begun = tr.begun;
  closed = λ i j lj hj hj'. ⊎_elim
      (λ early. tr.closed i j lj early hj')
      (λ late. let e : j ≡ k = omega arith in subst (λ z. 1 ≤ item number (op s i (item order z))) (sym e) (here i))
      (cases_lt j k);
  decides = tr.decides;
  forced = tr.forced;
  verdict = tr.verdict;
}

-- words lead from a numbered chamber to numbered chambers where the rows of all are done
act_numbered : (s b : Symbol) (order number : List ℕ) (k : ℕ) (rest : Symbol → List ℕ) (o : Ordering) → AreInvolutions s → IsTraversal s b order number k rest o → length order < k
    → (w : Word) (d : ℕ) → IsChamber s d → 1 ≤ item number d → 1 ≤ item number (act s w d)
act_numbered s b order number k rest o inv tr done [] d h some = some
act_numbered s b order number k rest o inv tr done (i ∷ w) d h some =
    act_numbered s b order number k rest o inv tr done w (op s i d) ((inv i).within d h)
    (⊎_elim
    (λ none. absurd (omega arith))
    (λ old. subst (λ z. 1 ≤ item number (op s i z)) old.2 (tr.closed i (item number d) old.0 (omega (arith, old.1)) old.1))
    (tr.visit.ordered d h.0 h.1))

all_numbered : (s b : Symbol) (order number : List ℕ) (k : ℕ) (rest : Symbol → List ℕ) (o : Ordering) → IsTable s → Connected s → IsTraversal s b order number k rest o → length order < k
    → (d : ℕ) → IsChamber s d → 1 ≤ item number d
all_numbered s b order number k rest o is con tr done d h =
    let inv = is.involutions in
    let start = item order 1 in
    let hs = tr.visit.within 1 (omega arith) tr.begun in
    let one = tr.visit.numbered 1 (omega arith) tr.begun in
    let pos = is.chambers in
    let h1 : IsChamber s 1 = (omega arith, pos) in
    let to_start = con start hs in
    let to_d = con d h in
    let back : act s (backwards to_start.word) start ≡ 1 =
    ap (act s (backwards to_start.word)) (sym to_start.leads) ∙ act-backwards s inv to_start.word 1 h1 in
    let first : 1 ≤ item number 1 = subst (λ z. 1 ≤ item number z) back
    (act_numbered s b order number k rest o inv tr done (backwards to_start.word) start hs (omega arith)) in
    subst (λ z. 1 ≤ item number z) to_d.leads (act_numbered s b order number k rest o inv tr done to_d.word 1 h1 first)

none_left : (xs : List ℕ) → ((j : ℕ) → j < length xs → 1 ≤ get_or xs j 0) → sum_by unnumbered xs ≡ 0
none_left [] all = refl
none_left (x ∷ xs) all =
    let first = all 0 (omega arith) in
    let here : unnumbered x ≡ 0 = numbered x first in
    let later = none_left xs (λ j h. all (suc j) (omega arith)) in
    rw (sum_by-cons unnumbered x xs) (omega arith)
  where
    numbered : (y : ℕ) → 1 ≤ y → unnumbered y ≡ 0
    numbered y h = grind (arith, nat_tests)

-- once the rows of all numbered chambers are done, all chambers are numbered
pub done_all : (s b : Symbol) (order number : List ℕ) (k : ℕ) (rest : Symbol → List ℕ) (o : Ordering) → IsTable s → Connected s → IsTraversal s b order number k rest o → length order < k
    → length order ≡ s.size
done_all s b order number k rest o is con tr done =
    let size = tr.visit.numbers in
    let none = none_left number (λ j h.
    let back : j + 1 - 1 ≡ j = omega arith in
    subst (λ z. 1 ≤ get_or number z 0) back (all_numbered s b order number k rest o is con tr done (j + 1) (omega arith, omega arith))) in
    let room = tr.visit.room in
    omega arith

-- before the last row there is a next chamber
pub next_row : (s b : Symbol) (order number : List ℕ) (k : ℕ) (rest : Symbol → List ℕ) (o : Ordering) → IsTable s → Connected s → IsTraversal s b order number k rest o → k ≤ s.size
    → k ≤ length order
next_row s b order number k rest o is con tr inside =
    ⊎_elim
    (λ out. let e = done_all s b order number k rest o is con tr out in omega arith)
    (λ here. here)
    (cases_lt (length order) k)

-- at the end the order and the numbers undo each other
pub numbers_undone : (s b : Symbol) (order number : List ℕ) (rest : Symbol → List ℕ) (o : Ordering) → IsTable s → Connected s → IsTraversal s b order number (s.size + 1) rest o
    → (length order ≡ s.size) × Undoes s.size order number × Undoes s.size number order
numbers_undone s b order number rest o is con tr =
    let v = tr.visit in
    let room = v.room in
    let full = done_all s b order number (s.size + 1) rest o is con tr (omega arith) in
    let some = all_numbered s b order number (s.size + 1) rest o is con tr (omega arith) in
    let at : (d : ℕ) → 1 ≤ d → d ≤ s.size → (1 ≤ item number d) × (item number d ≤ length order) × (item order (item number d) ≡ d) =
    λ d low high. let here = some d (low, high) in ⊎_elim (λ none. absurd (omega arith)) (λ old. old) (v.ordered d low high) in (
      full,
      record { within = λ d low high. let w = at d low high in (w.0, omega (arith, w.1)); undone = λ d low high. (at d low high).2 },
      record { within = λ k low high. v.within k low (omega arith); undone = λ k low high. v.numbered k low (omega arith) },
    )

-- a symbol in the numbers that were given goes on with the order
pub extends_itself : (s t : Symbol) (order number : List ℕ) → IsVisit s.size order number → IsIsomorphism s t number → IsExtension s order t number
extends_itself s t order number v iso = record { isomorphism = iso; begins = v.numbered }

-- before any row
pub begin : (s b : Symbol) (start : ℕ) (number : List ℕ) → b.size ≡ s.size → IsVisit s.size (start ∷ []) number → IsTraversal s b (start ∷ []) number 1 (λ u. rows u 1 s.size) Equal
begin s b start number size v = record {
  visit = v;
  begun = omega arith;
  closed = λ i j low high _. absurd (omega arith);
  decides = λ t f ext grows. subst (λ n. Grows 1 (rows t 1 n)) (sym ext.isomorphism.size) grows;
  forced = λ t f iso one first. (
    record { isomorphism = iso; begins = λ j low high. let e : j ≡ 1 = omega arith in subst (λ z. item f (item (start ∷ []) z) ≡ z) (sym e) one },
    subst (λ n. Grows 1 (rows t 1 n)) iso.size first,
  );
  verdict = λ t f ext.
      let n = ext.isomorphism.size in
      let sizes : nat_cmp t.size b.size ≡ Equal = sym (nat_cmp_is t.size b.size Equal (n ∙ sym size)) in
      let ct : code t ≡ rows t 1 s.size ++ (t.m01 ++ t.m12) = append_assoc (rows t 1 t.size) t.m01 t.m12 ∙ ap (λ k. rows t 1 k ++ (t.m01 ++ t.m12)) n in
      let cb : code b ≡ rows b 1 s.size ++ (b.m01 ++ b.m12) = append_assoc (rows b 1 b.size) b.m01 b.m12 ∙ ap (λ k. rows b 1 k ++ (b.m01 ++ b.m12)) size in
      ap (λ o. ordering_then o (slice_cmp nat_cmp (code t) (code b))) sizes
      ∙ ap (λ c. slice_cmp nat_cmp c (code b)) ct
      ∙ ap (λ c. slice_cmp nat_cmp (rows t 1 s.size ++ (t.m01 ++ t.m12)) c) cb;
}

-- The numbering by first visits from the start is above b where the traversal is.
pub falls_behind : (s b t : Symbol) (f order number : List ℕ) (k : ℕ) (rest : Symbol → List ℕ) (o : Ordering) → IsTraversal s b order number k rest o → o ≡ Greater
    → IsIsomorphism s t f → item f (item order 1) ≡ 1 → IsFirstVisit t → code_cmp t b ≡ Greater
falls_behind s b t f order number k rest o tr great iso one first =
    tr.verdict t f (tr.forced t f iso one first).0
    ∙ ap (λ z. ordering_then z (slice_cmp nat_cmp (rest t ++ (t.m01 ++ t.m12)) (rest b ++ (b.m01 ++ b.m12)))) great

-- and it is below b where the traversal is
pub gets_ahead : (s b t : Symbol) (f order number : List ℕ) (k : ℕ) (rest : Symbol → List ℕ) (o : Ordering) → IsTraversal s b order number k rest o → o ≡ Less
    → IsIsomorphism s t f → item f (item order 1) ≡ 1 → IsFirstVisit t → code_cmp t b ≡ Less
gets_ahead s b t f order number k rest o tr less iso one first =
    tr.verdict t f (tr.forced t f iso one first).0
    ∙ ap (λ z. ordering_then z (slice_cmp nat_cmp (rest t ++ (t.m01 ++ t.m12)) (rest b ++ (b.m01 ++ b.m12)))) less
