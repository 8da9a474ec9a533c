-- Ascending lists with the same members are equal. Each pair has one list of cells.
use Rattle.std.proofs.Common.{◌≡◌, ℕ, zero, suc, ◌+◌, ◌<◌, List, [], ◌∷◌, ◌++◌, refl, sym, ap, ◌∙◌, subst, ⊎_elim, arith}
use Rattle.std.proofs.lemmas.Bool.{cases_lt}
use Rattle.std.specs.List.{Contains}
use Rattle.std.specs.List.Sorted.{IsStrictlyIncreasing}
use Rattle.std.proofs.lemmas.List.Elements.{Contains-append_left, Contains-append_right, Contains-append_cases}
use Rattle.std.proofs.lemmas.List.Kept.{AllPairs-from_increasing}
use Rattle.dd_model.specs.declared.pair.Pair.{Pair}
use Rattle.dd_model.specs.Symbol.{Symbol, AreInvolutions}
use Rattle.dd_model.specs.Cell.{IsLeastOfCell, AreCells}
use Rattle.dd_model.proofs.CellSearch.{decide_least_of_cell}
use Rattle.dd_model.proofs.Lists.{Contains-head, Contains-later, Contains-cases}

pub increasing-tail : (x : ℕ) (xs : List ℕ) → IsStrictlyIncreasing (x ∷ xs) → IsStrictlyIncreasing xs
increasing-tail x xs up k h =
    let e : suc k + 1 ≡ suc (k + 1) = omega arith in
    let r = up (suc k) (omega arith) in rw e at r

-- the head of an ascending list is below all later members
pub increasing-head : (x y : ℕ) (xs : List ℕ) → IsStrictlyIncreasing (x ∷ xs) → Contains xs y → x < y
increasing-head x y xs up (k, h, e) =
    let below = AllPairs-from_increasing (x ∷ xs) up 0 (suc k) y (omega arith) (omega arith) in rw e at below

-- the members after the head
later_members : (x y : ℕ) (xs ys : List ℕ) → IsStrictlyIncreasing (x ∷ xs) → x ≡ y
    → ((z : ℕ) → Contains (x ∷ xs) z → Contains (y ∷ ys) z) → (z : ℕ) → Contains xs z → Contains ys z
later_members x y xs ys up same all z here =
    let below = increasing-head x z xs up here in
    ⊎_elim (λ e. absurd (omega arith)) (λ later. later) (Contains-cases y z ys (all z (Contains-later x z xs here)))

-- two ascending lists with the same members are equal
pub increasing_unique : (xs ys : List ℕ) → IsStrictlyIncreasing xs → IsStrictlyIncreasing ys
    → ((z : ℕ) → Contains xs z → Contains ys z) → ((z : ℕ) → Contains ys z → Contains xs z) → xs ≡ ys
increasing_unique [] [] up_x up_y to from = refl
increasing_unique [] (y ∷ ys) up_x up_y to from = let w = from y (Contains-head y ys) in absurd (omega (arith, w.1))
increasing_unique (x ∷ xs) [] up_x up_y to from = let w = to x (Contains-head x xs) in absurd (omega (arith, w.1))
increasing_unique (x ∷ xs) (y ∷ ys) up_x up_y to from =
    let same : x ≡ y =
    ⊎_elim
    (λ e. sym e)
    (λ x_later. ⊎_elim
    (λ e. e)
    (λ y_later.
    let a = increasing-head y x ys up_y x_later in
    let b = increasing-head x y xs up_x y_later in
    absurd (omega arith))
    (Contains-cases x y xs (from y (Contains-head y ys))))
    (Contains-cases y x ys (to x (Contains-head x xs))) in
    let rest : xs ≡ ys =
    increasing_unique xs ys (increasing-tail x xs up_x) (increasing-tail y ys up_y)
    (later_members x y xs ys up_x same to)
    (later_members y x ys xs up_y (sym same) from) in
    ap (λ v. v ∷ xs) same ∙ ap (λ vs. y ∷ vs) rest

-- No pair has two lists of cells.
pub cells_unique : (s : Symbol) (p : Pair) (ds es : List ℕ) → AreCells s p ds → AreCells s p es → ds ≡ es
cells_unique s p ds es a b =
    increasing_unique ds es a.ascending b.ascending
    (λ d here. (b.members d).1 ((a.members d).0 here))
    (λ d here. (a.members d).1 ((b.members d).0 here))

-- a member that is below the others goes in front
pub increasing-cons : (x : ℕ) (xs : List ℕ) → ((y : ℕ) → Contains xs y → x < y) → IsStrictlyIncreasing xs → IsStrictlyIncreasing (x ∷ xs)
increasing-cons x [] below up k h = absurd (omega arith)
increasing-cons x (y ∷ ys) below up zero h = below y (Contains-head y ys)
increasing-cons x (y ∷ ys) below up (suc k) h =
    let e : suc k + 1 ≡ suc (k + 1) = omega arith in
    rw e (up k (omega arith))

-- a member that is above the others goes behind
pub increasing-push : (x : ℕ) (xs : List ℕ) → ((y : ℕ) → Contains xs y → y < x) → IsStrictlyIncreasing xs → IsStrictlyIncreasing (xs ++ x ∷ [])
increasing-push x [] above up = λ k h. absurd (omega arith)
increasing-push x (y ∷ ys) above up =
    increasing-cons y (ys ++ x ∷ [])
    (λ z here. ⊎_elim
    (λ later. increasing-head y z ys up later)
    (λ last. ⊎_elim (λ e. subst (λ v. y < v) e (above y (Contains-head y ys))) (λ none. let below = none.1 in absurd (omega arith)) (Contains-cases x z [] last))
    (Contains-append_cases ys (x ∷ []) z here))
    (increasing-push x ys (λ z later. above z (Contains-later y z ys later)) (increasing-tail y ys up))

-- the least chambers of cells below k, ascending
pub record AreCellsBelow (s : Symbol) (p : Pair) (k : ℕ) (ds : List ℕ) : Type 0 where
  pub ascending : IsStrictlyIncreasing ds
  pub least : (d : ℕ) → Contains ds d → (d < k) × IsLeastOfCell s p d
  pub all : (d : ℕ) → d < k → IsLeastOfCell s p d → Contains ds d

pub cells_below-start : (s : Symbol) (p : Pair) → AreCellsBelow s p 1 []
cells_below-start s p = record {
  ascending = λ k h. absurd (omega arith);
  least = λ d here. let below = here.1 in absurd (omega arith);
  all = λ d below is. let low = is.0.0 in absurd (omega arith);
}

-- the next chamber is the least of its cell
pub cells_below-push : (s : Symbol) (p : Pair) (k : ℕ) (ds : List ℕ) → IsLeastOfCell s p k → AreCellsBelow s p k ds → AreCellsBelow s p (k + 1) (ds ++ k ∷ [])
cells_below-push s p k ds least below = record {
  ascending = increasing-push k ds (λ y here. (below.least y here).0) below.ascending;
  least = λ d here. ⊎_elim
      (λ early. let l = below.least d early in (omega (arith, l.0), l.1))
      (λ last. ⊎_elim
      (λ e. (omega arith, subst (IsLeastOfCell s p) e least))
      (λ none. let high = none.1 in absurd (omega arith))
      (Contains-cases k d [] last))
      (Contains-append_cases ds (k ∷ []) d here);
  all = λ d high is. ⊎_elim
      (λ early. Contains-append_left ds (k ∷ []) d (below.all d early is))
      (λ late. let e : k ≡ d = omega arith in subst (λ x. Contains (ds ++ k ∷ []) x) e (Contains-append_right ds (k ∷ []) k (Contains-head k [])))
      (cases_lt d k);
}

-- the next chamber is not
pub cells_below-skip : (s : Symbol) (p : Pair) (k : ℕ) (ds : List ℕ) → (IsLeastOfCell s p k → ⊥) → AreCellsBelow s p k ds → AreCellsBelow s p (k + 1) ds
cells_below-skip s p k ds other below = record {
  ascending = below.ascending;
  least = λ d here. let l = below.least d here in (omega (arith, l.0), l.1);
  all = λ d high is. ⊎_elim
      (λ early. below.all d early is)
      (λ late. let e : d ≡ k = omega arith in absurd (other (subst (IsLeastOfCell s p) e is)))
      (cases_lt d k);
}

-- past the last chamber they are all
pub cells_below-end : (s : Symbol) (p : Pair) (k : ℕ) (ds : List ℕ) → s.size < k → AreCellsBelow s p k ds → AreCells s p ds
cells_below-end s p k ds past below = record {
  ascending = below.ascending;
  members = λ d. (λ here. (below.least d here).1, λ is. let high = is.0.1 in below.all d (omega arith) is);
}

cells_below : (s : Symbol) → AreInvolutions s → (p : Pair) (n : ℕ) → (ds : List ℕ) × AreCellsBelow s p (1 + n) ds
cells_below s inv p zero = ([], cells_below-start s p)
cells_below s inv p (suc n) =
    let before = cells_below s inv p n in
    let next : 1 + n + 1 ≡ 1 + suc n = omega arith in
    ⊎_elim
    (λ least. (before.0 ++ (1 + n) ∷ [], subst (λ k. AreCellsBelow s p k (before.0 ++ (1 + n) ∷ [])) next (cells_below-push s p (1 + n) before.0 least before.1)))
    (λ other. (before.0, subst (λ k. AreCellsBelow s p k before.0) next (cells_below-skip s p (1 + n) before.0 other before.1)))
    (decide_least_of_cell s inv p (1 + n))

-- Each pair has a list of cells.
pub cells_exist : (s : Symbol) → AreInvolutions s → (p : Pair) → (ds : List ℕ) × AreCells s p ds
cells_exist s inv p =
    let all = cells_below s inv p s.size in
    (all.0, cells_below-end s p (1 + s.size) all.0 (omega arith) all.1)
