-- What a finished traversal says of the numbering by first visits.
use Rattle.std.proofs.Common.{◌≡◌, ◌≢◌, ℕ, true, ◌+◌, ◌<◌, ◌≤◌, List, [], ◌++◌, length, drop, sym, ap, ◌∙◌, subst, ⊎_elim, arith}
use Rattle.std.proofs.lemmas.List.{drop_all}
use Rattle.std.specs.Ordering.{nat_cmp, ordering_then, is_ne}
use Rattle.std.specs.Cmp.Lexicographic.{slice_cmp}
use Rattle.std.specs.declared.cmp.Ordering.{Ordering}
use Rattle.std.specs.declared.cmp.Ordering.TheVariants.{Equal, Greater}
use Rattle.dd_model.specs.declared.pair.Pair.{Pair}
use Rattle.dd_model.specs.declared.pair.Pair.TheVariants.{Tile, Vertex}
use Rattle.dd_model.specs.Symbol.{Symbol, IsTable, item, degree}
use Rattle.dd_model.specs.Connected.{Connected}
use Rattle.dd_model.specs.Code.{code_cmp}
use Rattle.dd_model.specs.FirstVisit.{IsNumberedFrom}
use Rattle.dd_canon.specs.Traversal.{IsVisit, IsExtension, IsTraversal}
use Rattle.dd_model.proofs.Codes.{same_items}
use Rattle.dd_model.proofs.Exchanges.{length-table, item-table}
use Rattle.dd_model.proofs.Transport.{degree-along}
use Rattle.dd_canon.proofs.Traversals.{numbers_undone, extends_itself}
use Rattle.dd_canon.specs.Standing.{IsStanding, IsOngoing, IsWhole, degree_list}
use Rattle.dd_model.proofs.Orders.{compared_in_parts, then_first}
use Rattle.dd_canon.proofs.OrderLemmas.{drop_step}

pub length-degree_list : (s : Symbol) (p : Pair) → length (degree_list s p) ≡ s.size
length-degree_list s p = length-table (degree s p) s.size

pub item-degree_list : (s : Symbol) (p : Pair) (d : ℕ) → 1 ≤ d → d ≤ s.size → item (degree_list s p) d ≡ degree s p d
item-degree_list s p d low high = item-table (degree s p) s.size d low high

m01_list : (s : Symbol) → IsTable s → degree_list s Tile ≡ s.m01
m01_list s is = same_items (degree_list s Tile) s.m01 s.size (length-degree_list s Tile) is.m01_length (λ d low high. item-degree_list s Tile d low (omega arith))

m12_list : (s : Symbol) → IsTable s → degree_list s Vertex ≡ s.m12
m12_list s is = same_items (degree_list s Vertex) s.m12 s.size (length-degree_list s Vertex) is.m12_length (λ d low high. item-degree_list s Vertex d low (omega arith))

-- the degree of one chamber in the new numbers
degree_here : (s t : Symbol) (p : Pair) (f order number : List ℕ) (k : ℕ) → IsVisit s.size order number → IsExtension s order t f → 1 ≤ k → k ≤ length order
    → degree t p k ≡ degree s p (item order k)
degree_here s t p f order number k v ext low high =
    sym (ap (degree t p) (ext.begins k low high)) ∙ degree-along s t f ext.isomorphism.morphism p (item order k) (v.within k low high)

-- the comparison at one chamber
pub degree_step : (s b t : Symbol) (p : Pair) (f order number : List ℕ) (k : ℕ) (o : Ordering) → IsVisit s.size order number → length order ≡ s.size → b.size ≡ s.size → IsExtension s order t f → k < s.size
    → o ≡ nat_cmp (degree s p (item order (k + 1))) (degree b p (k + 1))
    → slice_cmp nat_cmp (drop k (degree_list t p)) (drop k (degree_list b p)) ≡ ordering_then o (slice_cmp nat_cmp (drop (k + 1) (degree_list t p)) (drop (k + 1) (degree_list b p)))
degree_step s b t p f order number k o v full size ext h e =
    let n = ext.isomorphism.size in
    let nt = length-degree_list t p in
    let nb = length-degree_list b p in
    drop_step (degree_list t p) (degree_list b p) k (degree s p (item order (k + 1))) (degree b p (k + 1)) (omega arith) (omega arith)
    (item-degree_list t p (k + 1) (omega arith) (omega arith) ∙ degree_here s t p f order number (k + 1) v ext (omega arith) (omega arith))
    (item-degree_list b p (k + 1) (omega arith) (omega arith))
    ∙ ap (λ z. ordering_then z (slice_cmp nat_cmp (drop (k + 1) (degree_list t p)) (drop (k + 1) (degree_list b p)))) (sym e)

pub degree_end : (s b t : Symbol) (p : Pair) (f order : List ℕ) (k : ℕ) → b.size ≡ s.size → IsExtension s order t f → s.size ≤ k
    → slice_cmp nat_cmp (drop k (degree_list t p)) (drop k (degree_list b p)) ≡ Equal
degree_end s b t p f order k size ext h =
    let n = ext.isomorphism.size in
    let nt = length-degree_list t p in
    let nb = length-degree_list b p in
    ap (λ z. slice_cmp nat_cmp z (drop k (degree_list b p))) (drop_all k (degree_list t p) (omega arith)) ∙ ap (slice_cmp nat_cmp []) (drop_all k (degree_list b p) (omega arith))

-- the numbering by first visits goes on with the order
extension : (s b t : Symbol) (start : ℕ) (order number : List ℕ) (o : Ordering) → IsTraversal s b order number (s.size + 1) (λ u. []) o → item order 1 ≡ start → (a : IsNumberedFrom s start t)
    → IsExtension s order t a.map
extension s b t start order number o tr first a = (tr.forced t a.map a.isomorphism (ap (item a.map) first ∙ a.start_first) a.first_visit).0

-- where the images differ, they decide
pub rows_decide : (s b : Symbol) (start : ℕ) (order number : List ℕ) (o : Ordering) → IsOngoing s b start order number (s.size + 1) (λ u. []) o → is_ne o ≡ true → IsStanding s b start o
rows_decide s b start order number o ongoing differ =
    ⊎_elim
    (λ fallen. subst (IsStanding s b start) (sym fallen.0) fallen.1)
    (λ whole. record {
      stands = λ t a.
          whole.0.verdict t a.map (extension s b t start order number o whole.0 whole.1 a)
          ∙ sym (then_first o (slice_cmp nat_cmp (t.m01 ++ t.m12) (b.m01 ++ b.m12)) differ);
    })
    ongoing

-- a traversal that is not above has gone on to the end
pub not_fallen : (s b : Symbol) (start : ℕ) (order number : List ℕ) (o : Ordering) → IsOngoing s b start order number (s.size + 1) (λ u. []) o → o ≢ Greater
    → IsTraversal s b order number (s.size + 1) (λ u. []) o × (item order 1 ≡ start)
not_fallen s b start order number o ongoing here = ⊎_elim (λ fallen. absurd (here fallen.0)) (λ whole. whole) ongoing

-- where the images are equal, the degrees decide
pub degrees_decide : (s b : Symbol) (start : ℕ) (order number : List ℕ) (o : Ordering) → IsTable b → b.size ≡ s.size → o ≡ Equal
    → IsTraversal s b order number (s.size + 1) (λ u. []) o → item order 1 ≡ start → (t : Symbol) (a : IsNumberedFrom s start t)
    → IsExtension s order t a.map × (code_cmp t b ≡ ordering_then (slice_cmp nat_cmp (degree_list t Tile) (degree_list b Tile)) (slice_cmp nat_cmp (degree_list t Vertex) (degree_list b Vertex)))
degrees_decide s b start order number o ib size equal tr first t a =
    let ext = extension s b t start order number o tr first a in
    let it = a.table in
    let lengths : length t.m01 ≡ length b.m01 = it.m01_length ∙ ext.isomorphism.size ∙ sym size ∙ sym ib.m01_length in (
      ext,
      tr.verdict t a.map ext
          ∙ ap (λ z. ordering_then z (slice_cmp nat_cmp (t.m01 ++ t.m12) (b.m01 ++ b.m12))) equal
          ∙ compared_in_parts t.m01 b.m01 t.m12 b.m12 lengths
          ∙ ap (λ xs. ordering_then (slice_cmp nat_cmp xs b.m01) (slice_cmp nat_cmp t.m12 b.m12)) (sym (m01_list t it))
          ∙ ap (λ xs. ordering_then (slice_cmp nat_cmp (degree_list t Tile) xs) (slice_cmp nat_cmp t.m12 b.m12)) (sym (m01_list b ib))
          ∙ ap (λ xs. ordering_then (slice_cmp nat_cmp (degree_list t Tile) (degree_list b Tile)) (slice_cmp nat_cmp xs b.m12)) (sym (m12_list t it))
          ∙ ap (λ xs. ordering_then (slice_cmp nat_cmp (degree_list t Tile) (degree_list b Tile)) (slice_cmp nat_cmp (degree_list t Vertex) xs)) (sym (m12_list b ib)),
    )

-- what was compared of the degrees of a pair
pub record AreCompared (s b : Symbol) (p : Pair) (order : List ℕ) (o : Ordering) : Type 0 where
  pub verdict : (t : Symbol) (f : List ℕ) → IsExtension s order t f → o ≡ slice_cmp nat_cmp (degree_list t p) (degree_list b p)

pub m01_decides : (s b : Symbol) (start : ℕ) (order number : List ℕ) (o m01 : Ordering) → IsTable b → b.size ≡ s.size → o ≡ Equal
    → IsTraversal s b order number (s.size + 1) (λ u. []) o → item order 1 ≡ start → AreCompared s b Tile order m01 → is_ne m01 ≡ true → IsStanding s b start m01
m01_decides s b start order number o m01 ib size equal tr first compared differ = record {
  stands = λ t a.
      let e = degrees_decide s b start order number o ib size equal tr first t a in
      let vertex = slice_cmp nat_cmp (degree_list t Vertex) (degree_list b Vertex) in
      e.1 ∙ sym (ap (λ z. ordering_then z vertex) (compared.verdict t a.map e.0)) ∙ sym (then_first m01 vertex differ);
}

pub m12_decides : (s b : Symbol) (start : ℕ) (order number : List ℕ) (o m01 m12 : Ordering) → IsTable b → b.size ≡ s.size → o ≡ Equal
    → IsTraversal s b order number (s.size + 1) (λ u. []) o → item order 1 ≡ start → AreCompared s b Tile order m01 → m01 ≡ Equal → AreCompared s b Vertex order m12 → IsStanding s b start m12
m12_decides s b start order number o m01 m12 ib size equal tr first compared same later = record {
  stands = λ t a.
      let e = degrees_decide s b start order number o ib size equal tr first t a in
      let vertex = slice_cmp nat_cmp (degree_list t Vertex) (degree_list b Vertex) in
      e.1 ∙ sym (ap (λ z. ordering_then z vertex) (compared.verdict t a.map e.0)) ∙ ap (λ z. ordering_then z vertex) same ∙ sym (later.verdict t a.map e.0);
}

-- at the end all chambers have numbers, which are those of the first visits
pub whole : (s b : Symbol) (start : ℕ) (order number : List ℕ) (o : Ordering) → IsTable s → Connected s → IsTraversal s b order number (s.size + 1) (λ u. []) o → item order 1 ≡ start
    → IsWhole s start order number
whole s b start order number o is con tr first =
    let undone = numbers_undone s b order number (λ u. []) o is con tr in
    record {
      inverse = record { images = tr.visit.numbers; back_images = undone.0; left = undone.1; right = undone.2 };
      start_first = sym (ap (item number) first) ∙ tr.visit.numbered 1 (omega arith) tr.begun;
      numbered = λ t it iso. record {
        table = it;
        map = number;
        isomorphism = iso;
        start_first = sym (ap (item number) first) ∙ tr.visit.numbered 1 (omega arith) tr.begun;
        first_visit = tr.decides t number (extends_itself s t order number tr.visit iso) tt;
      };
    }
