-- The shifts of the edges, written at the chambers that pass them.
use Rattle.std.proofs.Common.{◌≡◌, ℕ, ◌+◌, ◌-◌, ◌<◌, ◌≤◌, List, length, set, get_or, ℤ, pos, ◌-ℤ◌, sym, ap, ◌∙◌, subst, ⊎_elim, arith}
use Rattle.std.proofs.lemmas.Bool.{cases_eq}
use Rattle.std.proofs.lemmas.List.{get_or-set_same, get_or-set_other, length-set}
use Rattle.dd_model.specs.declared.index.Index.{Index}
use Rattle.dd_model.specs.declared.index.Index.TheVariants.{Zero, Two}
use Rattle.dd_model.specs.declared.pair.Pair.TheVariants.{Edge}
use Rattle.dd_model.specs.Symbol.{Symbol, AreInvolutions, IsChamber, IsSymbol, op}
use Rattle.dd_model.specs.Cell.{AreCells}
use Rattle.dd_model.proofs.CellLists.{cells_unique}
use Rattle.dd_covers.specs.Ends.{Holds}
use Rattle.dd_lattice.specs.NetOf.{IsNet}
use Rattle.dd_lattice.specs.Shifts.{AreShifts}
use Rattle.dd_lattice.specs.declared.net.Net.{Net}
use Rattle.dd_lattice.specs.declared.net_edge.NetEdge.{NetEdge}
use Rattle.dd_lattice.proofs.Around.{commute, through_edge}
use Rattle.dd_lattice.proofs.KindLemmas.{listed_edge, same_default}
use Rattle.dd_gram.specs.Shifts.{number_at, IsPassed, AreSetAt, IsPutAt}

-- ## Putting

set_own : (list : List ℤ) (d : ℕ) (v z : ℤ) → 1 ≤ d → d ≤ length list → v ≡ z → number_at (set list (d - 1) v) d ≡ z
set_own list d v z low high e = get_or-set_same list (d - 1) v (pos 0) (omega arith) ∙ e

set_kept : (z : ℕ → ℤ) (list : List ℤ) (d : ℕ) (v : ℤ) → 1 ≤ d → d ≤ length list → v ≡ z d → (e : ℕ) → 1 ≤ e → number_at list e ≡ z e → number_at (set list (d - 1) v) e ≡ z e
set_kept z list d v low high is e some right =
    ⊎_elim
    (λ same. subst (λ c. number_at (set list (d - 1) v) c ≡ z c) same (set_own list d v (z d) low high is))
    (λ other. get_or-set_other list (d - 1) (e - 1) v (pos 0) (λ s. other (omega arith)) ∙ right)
    (cases_eq d e)

module _ (t : Symbol) (inv : AreInvolutions t) (d a p q : ℕ) (h : IsChamber t d) (across : a ≡ op t Two d) (back : p ≡ op t Zero d) (beyond : q ≡ op t Zero a)
    (value v w : ℤ) (v_is : v ≡ value) (w_is : w ≡ pos 0 -ℤ value) (list : List ℤ) (whole : length list ≡ t.size) where
  abbrev list1 : List ℤ
  list1 = set list (d - 1) v

  abbrev list2 : List ℤ
  list2 = set list1 (a - 1) v

  abbrev list3 : List ℤ
  list3 = set list2 (p - 1) w

  abbrev list4 : List ℤ
  list4 = set list3 (q - 1) w

  ha : IsChamber t a
  ha = subst (IsChamber t) (sym across) ((inv Two).within d h)

  hp : IsChamber t p
  hp = subst (IsChamber t) (sym back) ((inv Zero).within d h)

  hq : IsChamber t q
  hq = subst (IsChamber t) (sym beyond) ((inv Zero).within a ha)

  size1 : length list1 ≡ t.size
  size1 = length-set list (d - 1) v ∙ whole

  size2 : length list2 ≡ t.size
  size2 = length-set list1 (a - 1) v ∙ size1

  size3 : length list3 ≡ t.size
  size3 = length-set list2 (p - 1) w ∙ size2

  size4 : length list4 ≡ t.size
  size4 = length-set list3 (q - 1) w ∙ size3

  module _ (z : ℕ → ℤ) (passed : IsPassed t z) (own : z d ≡ value) where
    at_d : v ≡ z d
    at_d = v_is ∙ sym own

    at_a : v ≡ z a
    at_a = at_d ∙ sym (passed.across d h) ∙ ap z (sym across)

    at_p : w ≡ z p
    at_p = w_is ∙ ap (λ x. pos 0 -ℤ x) (sym own) ∙ sym (passed.back d h) ∙ ap z (sym back)

    at_q : w ≡ z q
    at_q = w_is ∙ ap (λ x. pos 0 -ℤ x) (sym v_is ∙ at_a) ∙ sym (passed.back a ha) ∙ ap z (sym beyond)

    kept2 : (e : ℕ) → IsChamber t e → number_at list1 e ≡ z e → number_at list2 e ≡ z e
    kept2 e he = set_kept z list1 a v ha.0 (let s = size1 in let g = ha.1 in omega arith) at_a e he.0

    kept3 : (e : ℕ) → IsChamber t e → number_at list2 e ≡ z e → number_at list3 e ≡ z e
    kept3 e he = set_kept z list2 p w hp.0 (let s = size2 in let g = hp.1 in omega arith) at_p e he.0

    kept4 : (e : ℕ) → IsChamber t e → number_at list3 e ≡ z e → number_at list4 e ≡ z e
    kept4 e he = set_kept z list3 q w hq.0 (let s = size3 in let g = hq.1 in omega arith) at_q e he.0

    kept_all : (e : ℕ) → IsChamber t e → number_at list e ≡ z e → number_at list4 e ≡ z e
    kept_all e he right = kept4 e he (kept3 e he (kept2 e he (set_kept z list d v h.0 (let g = h.1 in omega arith) at_d e he.0 right)))

    four : AreSetAt t z d list4
    four =
        let right_d = kept4 d h (kept3 d h (kept2 d h (set_own list d v (z d) h.0 (let g = h.1 in omega arith) at_d))) in
        let right_a = kept4 a ha (kept3 a ha (set_own list1 a v (z a) ha.0 (let s = size1 in let g = ha.1 in omega arith) at_a)) in
        let right_p = kept4 p hp (set_own list2 p w (z p) hp.0 (let s = size2 in let g = hp.1 in omega arith) at_p) in
        let right_q = set_own list3 q w (z q) hq.0 (let s = size3 in let g = hq.1 in omega arith) at_q in
        record {
          own = right_d;
          across = subst (λ e. number_at list4 e ≡ z e) across right_a;
          back = subst (λ e. number_at list4 e ≡ z e) back right_p;
          beyond = subst (λ e. number_at list4 e ≡ z e) (beyond ∙ ap (op t Zero) across) right_q;
        }

  pub put_at : IsPutAt t d value list list4
  put_at = record {
    whole = size4 ∙ sym whole;
    set = λ z passed own. four z passed own;
    kept = λ z e passed own he right. kept_all z passed own e he right;
  }

-- ## All edges

passed : (t : Symbol) (one : ℕ) (x : ℕ → ℤ) → AreShifts t one x → IsPassed t x
passed t one x are = record { back = are.back; across = are.across }

pub passed_first : (t : Symbol) (net : Net) (is : IsNet t net) → IsPassed t is.first
passed_first t net is = passed t is.one is.first is.are_first

pub passed_second : (t : Symbol) (net : Net) (is : IsNet t net) → IsPassed t is.second
passed_second t net is = passed t is.two is.second is.are_second

-- the first n edges have their numbers at their chambers
abbrev pub AreSetTo : Symbol → (ℕ → ℤ) → List ℕ → ℕ → List ℤ → Type 0
AreSetTo t z edges n list = (q : ℕ) → q < n → q < length edges → AreSetAt t z (get_or edges q 0) list

module _ (t : Symbol) (symbol : IsSymbol t) (z : ℕ → ℤ) (is_passed : IsPassed t z) where
  abbrev inv : AreInvolutions t
  inv = symbol.table.involutions

  kept_at : (d : ℕ) (value : ℤ) (old new : List ℤ) → IsPutAt t d value old new → z d ≡ value → (e : ℕ) → IsChamber t e → AreSetAt t z e old → AreSetAt t z e new
  kept_at d value old new put own e he at =
      let two = (inv Two).within e he in
      record {
        own = put.kept z e is_passed own he at.own;
        across = put.kept z (op t Two e) is_passed own two at.across;
        back = put.kept z (op t Zero e) is_passed own ((inv Zero).within e he) at.back;
        beyond = put.kept z (op t Zero (op t Two e)) is_passed own ((inv Zero).within (op t Two e) two) at.beyond;
      }

  pub set_more : (edges : List ℕ) → AreCells t Edge edges → (n : ℕ) (value : ℤ) (old new : List ℤ) → n < length edges → z (get_or edges n 0) ≡ value → AreSetTo t z edges n old
      → IsPutAt t (get_or edges n 0) value old new → AreSetTo t z edges (n + 1) new
  set_more edges cells n value old new inside own before put q low here =
      ⊎_elim
      (λ same. subst (λ k. AreSetAt t z (get_or edges k 0) new) (sym same) (put.set z is_passed own))
      (λ other. kept_at (get_or edges n 0) value old new put own (get_or edges q 0) (listed_edge t edges cells q here).0 (before q (omega arith) here))
      (cases_eq q n)

  beside : (list : List ℤ) (i : Index) (d : ℕ) → IsChamber t d → Holds Edge i → AreSetAt t z d list → AreSetAt t z (op t i d) list
  beside list i d h holds at =
      let right = λ (a b : ℕ) (same : a ≡ b) (r : number_at list b ≡ z b). subst (λ e. number_at list e ≡ z e) (sym same) r in
      let h2 = (inv Two).within d h in
      ⊎_elim
      (λ e. subst (λ j. AreSetAt t z (op t j d) list) (sym e) (record {
        own = at.back;
        across = right (op t Two (op t Zero d)) (op t Zero (op t Two d)) (commute t symbol d h) at.beyond;
        back = right (op t Zero (op t Zero d)) d ((inv Zero).involutive d h) at.own;
        beyond = right (op t Zero (op t Two (op t Zero d))) (op t Two d) (ap (op t Zero) (commute t symbol d h) ∙ (inv Zero).involutive (op t Two d) h2) at.across;
      }))
      (λ e. subst (λ j. AreSetAt t z (op t j d) list) (sym e) (record {
        own = at.across;
        across = right (op t Two (op t Two d)) d ((inv Two).involutive d h) at.own;
        back = at.beyond;
        beyond = right (op t Zero (op t Two (op t Two d))) (op t Zero d) (ap (op t Zero) ((inv Two).involutive d h)) at.back;
      }))
      holds

  pub all_set : (edges : List ℕ) → AreCells t Edge edges → (n : ℕ) (list : List ℤ) → length edges ≤ n → AreSetTo t z edges n list → (d : ℕ) → IsChamber t d → number_at list d ≡ z d
  all_set edges cells n list past set_ d h =
      (through_edge t symbol (λ c. AreSetAt t z c list) (beside list) (λ e least.
      let listed = (cells.members e).1 least in
      let q = listed.0 in
      subst (λ c. AreSetAt t z c list) (same_default edges q e listed.1 listed.2) (set_ q (let low = listed.1 in omega arith) listed.1)) d h).own

-- the edges of a net, in the order of the least chambers
pub net_edge : (t : Symbol) (net : Net) (is : IsNet t net) (edges : List ℕ) → AreCells t Edge edges → (k : ℕ) (e : NetEdge) → k < length edges
    → (k < length net.edges.items) × ((get_or net.edges.items k e).x ≡ is.first (get_or edges k 0)) × ((get_or net.edges.items k e).y ≡ is.second (get_or edges k 0))
net_edge t net is edges cells k e inside =
    let same = cells_unique t Edge edges is.edges cells is.are_edges in
    let many = is.many_edges in
    let size = ap (λ (es : List ℕ). length es) same in
    let here : k < length is.edges = omega arith in
    let edge = is.each k e here in
    let at : get_or is.edges k 0 ≡ get_or edges k 0 = ap (λ es. get_or es k 0) (sym same) in
    (omega arith, edge.x ∙ ap is.first at, edge.y ∙ ap is.second at)

-- as many as least chambers
pub edges_of : (t : Symbol) (net : Net) → IsNet t net → (edges : List ℕ) → AreCells t Edge edges → length net.edges.items ≡ length edges
edges_of t net is edges cells = is.many_edges ∙ ap (λ (es : List ℕ). length es) (sym (cells_unique t Edge edges is.edges cells is.are_edges))
