-- A partial table that the traversal from some start beats has no least completion.
use Rattle.std.proofs.Common.{◌≡◌, ◌≢◌, ℕ, ◌≤◌, List, [], ◌∷◌, length, refl, sym, subst, arith}
use Rattle.std.specs.Ordering.{nat_cmp, ordering_then}
use Rattle.std.specs.declared.cmp.Ordering.{Ordering}
use Rattle.std.specs.declared.cmp.Ordering.TheVariants.{Less, Equal}
use Rattle.dd_model.specs.declared.index.Index.{Index}
use Rattle.dd_model.specs.Symbol.{Symbol, IsTable, item, op}
use Rattle.dd_model.specs.Connected.{Connected}
use Rattle.dd_model.specs.FirstVisit.{rows, LeastTable}
use Rattle.dd_canon.specs.Traversal.{IsVisit, IsMeeting, IsTraversal, IsPartialTraversal}
use Rattle.dd_model.specs.Partial.{Completes}
use Rattle.dd_canon.proofs.Traversals.{advance, begin, gets_ahead}
use Rattle.dd_model.proofs.Numberings.{numbered_from}
use Rattle.dd_model.proofs.LeastForms.{below_back}

-- a symbol that one of its own traversals beats, wherever it stands, is not least
pub beaten_not_least : (s : Symbol) (order number : List ℕ) (k : ℕ) (rest : Symbol → List ℕ) → IsTable s → Connected s → IsTraversal s s order number k rest Less → LeastTable s → ⊥
beaten_not_least s order number k rest is con tr least =
    let start = item order 1 in
    let u = numbered_from s start is con (tr.visit.within 1 (omega arith) tr.begun) in
    let a = u.1 in
    least u.0 a.table (a.map, a.isomorphism)
    (below_back u.0 s (gets_ahead s s u.0 a.map order number k rest Less tr refl a.isomorphism a.start_first a.first_visit))

pub begin_partial : (partial : Symbol) (start : ℕ) (number : List ℕ) → IsVisit partial.size (start ∷ []) number → IsPartialTraversal partial (start ∷ []) number 1 (λ u. rows u 1 partial.size) Equal
begin_partial partial start number v = record {
  all = λ s full.
      let e : partial.size ≡ s.size = sym full.size in
      subst (λ n. IsTraversal s s (start ∷ []) number 1 (λ u. rows u 1 n) Equal) full.size
      (begin s s start number refl (subst (λ n. IsVisit n (start ∷ []) number) e v));
}

-- One image more, where both the image in the traversal and that in the partial table are known.
pub advance_partial : (partial : Symbol) (order number order' number' : List ℕ) (c k : ℕ) (i : Index) (rest : Symbol → List ℕ) (o : Ordering) (x : ℕ) → 1 ≤ k → k ≤ length order → c ≤ k
    → IsPartialTraversal partial order number c (λ u. op u i k ∷ rest u) o → op partial i (item order k) ≢ 0 → op partial i k ≢ 0
    → IsVisit partial.size order' number' → IsMeeting order order' number' (op partial i (item order k)) x
    → IsPartialTraversal partial order' number' c rest (ordering_then o (nat_cmp x (op partial i k)))
advance_partial partial order number order' number' c k i rest o x low high early tr known known' v meets = record {
  all = λ s full.
      let e : partial.size ≡ s.size = sym full.size in
      let image : op s i (item order k) ≡ op partial i (item order k) = full.images i (item order k) known in
      let own : op s i k ≡ op partial i k = full.images i k known' in
      subst (λ y. IsTraversal s s order' number' c rest (ordering_then o (nat_cmp x y))) own
      (advance s s order number order' number' c k i rest o x full.table.involutions low high (tr.all s full)
      (subst (λ n. IsVisit n order' number') e v) (subst (λ d. IsMeeting order order' number' d x) (sym image) meets) early);
}

-- no completion is least where the traversal from some start is below
pub no_least_completion : (partial : Symbol) (order number : List ℕ) (k : ℕ) (rest : Symbol → List ℕ) → IsPartialTraversal partial order number k rest Less
    → (s : Symbol) → Completes partial s → LeastTable s → ⊥
no_least_completion partial order number k rest tr s full least = beaten_not_least s order number k rest full.table full.connected (tr.all s full) least
