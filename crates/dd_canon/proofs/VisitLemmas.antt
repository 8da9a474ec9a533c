-- The rows of a traversal, step by step.
use Rattle.std.proofs.Common.{◌≡◌, ℕ, suc, true, false, ◌+◌, ◌-◌, ◌≤◌, inl, inr, List, [], ◌∷◌, length, sym, ap, ◌∙◌, subst, ⊎_elim, arith}
use Rattle.std.specs.Ordering.{is_gt}
use Rattle.std.specs.declared.cmp.Ordering.{Ordering}
use Rattle.std.specs.declared.cmp.Ordering.TheVariants.{Equal, Greater}
use Rattle.dd_model.specs.declared.index.Index.{Index}
use Rattle.dd_model.specs.declared.index.Index.TheVariants.{Zero, One, Two}
use Rattle.dd_model.specs.Symbol.{Symbol, AreInvolutions, item, op}
use Rattle.dd_model.specs.FirstVisit.{rows}
use Rattle.dd_canon.specs.Traversal.{IsVisit, IsTraversal}
use Rattle.dd_canon.proofs.Traversals.{still_numbered, advance, close, falls_behind, begin}
use Rattle.dd_canon.specs.Standing.{IsMetAndCompared, IsStep, IsStanding, IsOngoing}
use Rattle.dd_canon.proofs.OrderLemmas.{greater_of}

pub begun : (s b : Symbol) (start : ℕ) (order number : List ℕ) → b.size ≡ s.size → order ≡ start ∷ [] → IsVisit s.size order number
    → IsTraversal s b order number 1 (λ u. rows u 1 s.size) Equal
begun s b start order number size e v =
    subst (λ xs. IsTraversal s b xs number 1 (λ u. rows u 1 s.size) Equal) (sym e) (begin s b start number size (subst (λ xs. IsVisit s.size xs number) e v))

-- where the traversal is above b, so is the numbering by first visits
pub fallen : (s b : Symbol) (start : ℕ) (order number : List ℕ) (k : ℕ) (rest : Symbol → List ℕ) (o : Ordering) → IsTraversal s b order number k rest o → item order 1 ≡ start → o ≡ Greater
    → IsStanding s b start Greater
fallen s b start order number k rest o tr first great = record {
  stands = λ t a. falls_behind s b t a.map order number k rest o tr great a.isomorphism (ap (item a.map) first ∙ a.start_first) a.first_visit;
}

pub fallen_here : (s b : Symbol) (start : ℕ) (order number : List ℕ) (k : ℕ) (rest : Symbol → List ℕ) (k' : ℕ) (rest' : Symbol → List ℕ) (o : Ordering)
    → IsTraversal s b order number k rest o → item order 1 ≡ start → is_gt o ≡ true → IsOngoing s b start order number k' rest' o
fallen_here s b start order number k rest k' rest' o tr first gt =
    let great = greater_of o gt in inl (great, fallen s b start order number k rest o tr first great)

-- the rows of all chambers where one has fallen behind, and where none has
pub fallen_row : (s b : Symbol) (start : ℕ) (order number : List ℕ) (k n k' : ℕ) (rest : Symbol → List ℕ) (o : Ordering) → IsOngoing s b start order number k (λ u. rows u k n) o → is_gt o ≡ true
    → IsOngoing s b start order number k' rest o
fallen_row s b start order number k n k' rest o ongoing gt =
    ⊎_elim (λ early. inl early) (λ late. fallen_here s b start order number k (λ u. rows u k n) k' rest o late.0 late.1 gt) ongoing

pub going_on : (s b : Symbol) (start : ℕ) (order number : List ℕ) (k : ℕ) (rest : Symbol → List ℕ) (o : Ordering) → IsOngoing s b start order number k rest o → is_gt o ≡ false
    → IsTraversal s b order number k rest o × (item order 1 ≡ start)
going_on s b start order number k rest o ongoing not_gt =
    ⊎_elim (λ early. let gt : is_gt o ≡ true = ap is_gt early.0 in absurd (cc)) (λ late. late) ongoing

pub last_row : (s b : Symbol) (start : ℕ) (order number : List ℕ) (k : ℕ) (o : Ordering) → IsTraversal s b order number (k + 1) (λ u. rows u (k + 1) (s.size - k)) o → k ≡ s.size → item order 1 ≡ start
    → IsOngoing s b start order number (s.size + 1) (λ u. []) o
last_row s b start order number k o tr last first =
    let none : s.size - k ≡ 0 = omega arith in
    let done : IsTraversal s b order number (k + 1) (λ u. []) o = subst (λ n. IsTraversal s b order number (k + 1) (λ u. rows u (k + 1) n) o) none tr in
    inr (subst (λ j. IsTraversal s b order number (j + 1) (λ u. []) o) last done, first)

-- the image of a chamber that was read before, beside that of the form
pub image_met : (s b : Symbol) (i : Index) (k d x y : ℕ) (so_far : Ordering) (order order' number' : List ℕ) (o : Ordering) → x ≡ op s i d → d ≡ item order k → y ≡ op b i k
    → IsMetAndCompared x y so_far order order' number' o → IsStep s b i k so_far order order' number' o
image_met s b i k d x y so_far order order' number' o image there own met =
    subst (λ z. IsMetAndCompared z (op b i k) so_far order order' number' o) (image ∙ ap (op s i) there)
    (subst (λ z. IsMetAndCompared x z so_far order order' number' o) own met)

-- one image more
pub step_on : (s b : Symbol) (order number order' number' : List ℕ) (k : ℕ) (i : Index) (rest : Symbol → List ℕ) (so_far o : Ordering) → AreInvolutions s
    → IsTraversal s b order number k (λ u. op u i k ∷ rest u) so_far → 1 ≤ k → k ≤ length order → IsVisit s.size order' number' → IsStep s b i k so_far order order' number' o
    → IsTraversal s b order' number' k rest o
step_on s b order number order' number' k i rest so_far o inv tr low high v' st =
    subst (IsTraversal s b order' number' k rest) (sym st.verdict)
    (advance s b order number order' number' k k i rest so_far st.number inv low high tr v' st.meeting (omega arith))

-- a step leaves the start, and the chambers that have a number
pub start_kept : (s b : Symbol) (i : Index) (k : ℕ) (so_far o : Ordering) (order order' number' : List ℕ) → 1 ≤ length order → IsStep s b i k so_far order order' number' o → item order' 1 ≡ item order 1
start_kept s b i k so_far o order order' number' begun st = st.meeting.kept 1 (omega arith) begun

pub still_inside : (s b : Symbol) (i : Index) (k : ℕ) (so_far o : Ordering) (order order' number' : List ℕ) → k ≤ length order → IsStep s b i k so_far order order' number' o → k ≤ length order'
still_inside s b i k so_far o order order' number' inside st = let longer = st.meeting.longer in omega arith

-- the three images of the chamber with number k
pub row_done : (s b : Symbol) (order0 number0 order1 number1 order2 number2 order3 number3 : List ℕ) (k : ℕ) (o0 o1 o2 o3 : Ordering) → AreInvolutions s
    → IsTraversal s b order0 number0 k (λ u. rows u k (suc (s.size - k))) o0 → 1 ≤ k → k ≤ length order0
    → IsVisit s.size order1 number1 → IsStep s b Zero k o0 order0 order1 number1 o1
    → IsVisit s.size order2 number2 → IsStep s b One k o1 order1 order2 number2 o2
    → IsVisit s.size order3 number3 → IsStep s b Two k o2 order2 order3 number3 o3
    → IsTraversal s b order3 number3 (k + 1) (λ u. rows u (k + 1) (s.size - k)) o3
row_done s b order0 number0 order1 number1 order2 number2 order3 number3 k o0 o1 o2 o3 inv tr low high v1 one v2 two v3 three =
    let n = s.size - k in
    let l1 = one.meeting.longer in
    let l2 = two.meeting.longer in
    let c0 = item order0 k in
    let h0 = tr.visit.within k low high in
    let same1 : item order1 k ≡ c0 = one.meeting.kept k low high in
    let same2 : item order2 k ≡ c0 = two.meeting.kept k low (omega arith) ∙ same1 in
    let same3 : item order3 k ≡ c0 = three.meeting.kept k low (omega arith) ∙ same2 in
    let x0 = op s Zero c0 in
    let x1 = op s One c0 in
    let x2 = op s Two c0 in
    let hx0 = (inv Zero).within c0 h0 in
    let hx1 = (inv One).within c0 h0 in
    let t1 = step_on s b order0 number0 order1 number1 k Zero (λ u. op u One k ∷ op u Two k ∷ rows u (k + 1) n) o0 o1 inv tr low high v1 one in
    let t2 = step_on s b order1 number1 order2 number2 k One (λ u. op u Two k ∷ rows u (k + 1) n) o1 o2 inv t1 low (omega arith) v2 two in
    let t3 = step_on s b order2 number2 order3 number3 k Two (λ u. rows u (k + 1) n) o2 o3 inv t2 low (omega arith) v3 three in
    let first1 : 1 ≤ item number1 x0 = subst (λ z. 1 ≤ z) (sym one.meeting.number) one.meeting.positive in
    let first2 : 1 ≤ item number2 x0 = subst (λ z. 1 ≤ z) (sym (still_numbered s.size order1 number1 order2 number2 (op s One (item order1 k)) two.number x0 v1 v2 two.meeting hx0.0 hx0.1 first1)) first1 in
    let first3 : 1 ≤ item number3 x0 = subst (λ z. 1 ≤ z) (sym (still_numbered s.size order2 number2 order3 number3 (op s Two (item order2 k)) three.number x0 v2 v3 three.meeting hx0.0 hx0.1 first2)) first2 in
    let second2 : 1 ≤ item number2 x1 = subst (λ z. 1 ≤ item number2 (op s One z)) same1 (subst (λ z. 1 ≤ z) (sym two.meeting.number) two.meeting.positive) in
    let second3 : 1 ≤ item number3 x1 = subst (λ z. 1 ≤ z) (sym (still_numbered s.size order2 number2 order3 number3 (op s Two (item order2 k)) three.number x1 v2 v3 three.meeting hx1.0 hx1.1 second2)) second2 in
    let third3 : 1 ≤ item number3 x2 = subst (λ z. 1 ≤ item number3 (op s Two z)) same2 (subst (λ z. 1 ≤ z) (sym three.meeting.number) three.meeting.positive) in
    close s b order3 number3 k (λ u. rows u (k + 1) n) o3 t3
    (λ i. subst (λ z. 1 ≤ item number3 (op s i z)) (sym same3)
    (elim i as (λ j. 1 ≤ item number3 (op s j c0)) [ Zero ↦ first3 | One ↦ second3 | Two ↦ third3 ]))
