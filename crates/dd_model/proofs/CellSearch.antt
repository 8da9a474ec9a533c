-- Cells can be searched: what lies in a cell is decided, and each cell has a least chamber.
use Rattle.std.proofs.Common.{◌≡◌, ℕ, zero, suc, ◌+◌, ◌<◌, ◌≤◌, ◌⊎◌, sym, subst, inl, inr, ⊎_elim, arith}
use Rattle.std.proofs.lemmas.Bool.{cases_eq, cases_lt}
use Rattle.dd_model.specs.declared.pair.Pair.{Pair}
use Rattle.dd_model.specs.Symbol.{Symbol, AreInvolutions, IsChamber, first, op}
use Rattle.dd_model.specs.Cell.{InCell, turned, IsLeastOfCell}
use Rattle.dd_model.proofs.Transport.{in_cell_within}
use Rattle.dd_model.proofs.CellWalks.{in_cell-refl, in_cell-sym, in_cell-trans, has_period, in_cell_from_met, met_from_in_cell}

abbrev pub Decided : Type 0 → Type 0
Decided P = P ⊎ (P → ⊥)

-- a number below n at which P holds, or none
pub find_below : (P : ℕ → Type 0) → ((k : ℕ) → Decided (P k)) → (n : ℕ) → ((k : ℕ) × (k < n) × P k) ⊎ ((k : ℕ) → k < n → P k → ⊥)
find_below P decide zero = inr (λ k below. absurd (omega arith))
find_below P decide (suc n) =
    ⊎_elim
    (λ found. inl (found.0, omega (arith, found.1), found.2))
    (λ none. ⊎_elim
    (λ here. inl (n, omega arith, here))
    (λ fails. inr (λ k below there. ⊎_elim (λ early. none k early there) (λ late. let e : k ≡ n = omega arith in fails (subst P e there)) (cases_lt k n)))
    (decide n))
    (find_below P decide n)

least_from : (P : ℕ → Type 0) → ((k : ℕ) → Decided (P k)) → (j m : ℕ) → ((k : ℕ) → k < m → P k → ⊥) → P (m + j)
    → (l : ℕ) × P l × ((k : ℕ) → P k → l ≤ k)
least_from P decide zero m before holds =
    let e : m + zero ≡ m = omega arith in
    (m, subst P e holds, λ k here. ⊎_elim (λ early. absurd (before k early here)) (λ late. late) (cases_lt k m))
least_from P decide (suc j) m before holds =
    ⊎_elim
    (λ here. (m, here, λ k there. ⊎_elim (λ early. absurd (before k early there)) (λ late. late) (cases_lt k m)))
    (λ fails.
    let e : m + suc j ≡ suc m + j = omega arith in
    least_from P decide j (suc m)
    (λ k low there. ⊎_elim (λ early. before k early there) (λ late. let same : k ≡ m = omega arith in fails (subst P same there)) (cases_lt k m))
    (subst P e holds))
    (decide m)

-- the least number at which P holds
pub least_where : (P : ℕ → Type 0) → ((k : ℕ) → Decided (P k)) → (n : ℕ) → P n → (m : ℕ) × P m × ((k : ℕ) → P k → m ≤ k)
least_where P decide n holds =
    let e : n ≡ 0 + n = omega arith in
    least_from P decide n 0 (λ k low. absurd (omega arith)) (subst P e holds)

-- to be met after k turns
abbrev IsAt : Symbol → Pair → ℕ → ℕ → ℕ → Type 0
IsAt s p d e k = (turned s p k d ≡ e) ⊎ (op s (first p) (turned s p k d) ≡ e)

decide_at : (s : Symbol) (p : Pair) (d e k : ℕ) → Decided (IsAt s p d e k)
decide_at s p d e k =
    ⊎_elim
    (λ here. inl (inl here))
    (λ not_here. ⊎_elim
    (λ beside. inl (inr beside))
    (λ not_beside. inr (λ at. ⊎_elim not_here not_beside at))
    (cases_eq (op s (first p) (turned s p k d)) e))
    (cases_eq (turned s p k d) e)

-- It is decided whether a chamber lies in the cell of another.
pub decide_in_cell : (s : Symbol) → AreInvolutions s → (p : Pair) (d e : ℕ) → IsChamber s d → Decided (InCell s p d e)
decide_in_cell s inv p d e h =
    let has = has_period s inv p d h in
    ⊎_elim
    (λ found. inl (in_cell_from_met s p d has.r e (record { turns = found.0; below = found.1; place = found.2 })))
    (λ none. inr (λ there. let met = met_from_in_cell s inv p d has.r e h has.period there in none met.turns met.below met.place))
    (find_below (IsAt s p d e) (decide_at s p d e) has.r)

-- ## Least chambers of cells

-- the least chamber of the cell of d
pub record HasLeast (s : Symbol) (p : Pair) (d : ℕ) : Type 0 where
  pub least : ℕ
  pub in_cell : InCell s p d least
  pub is_least : IsLeastOfCell s p least

-- Each cell has a least chamber.
pub has_least : (s : Symbol) → AreInvolutions s → (p : Pair) (d : ℕ) → IsChamber s d → HasLeast s p d
has_least s inv p d h =
    let m = least_where (InCell s p d) (λ e. decide_in_cell s inv p d e h) d (in_cell-refl s p d) in
    record {
      least = m.0;
      in_cell = m.1;
      is_least = (in_cell_within s inv p d m.0 h m.1, λ e there. m.2 e (in_cell-trans s p d m.0 e m.1 there));
    }

-- No cell has two.
pub least_of_cell_unique : (s : Symbol) → AreInvolutions s → (p : Pair) (d e : ℕ) → IsLeastOfCell s p d → IsLeastOfCell s p e → InCell s p d e → d ≡ e
least_of_cell_unique s inv p d e a b there =
    let low = a.1 e there in
    let high = b.1 d (in_cell-sym s inv p d e a.0 there) in
    omega arith

pub decide_chamber : (s : Symbol) (d : ℕ) → Decided (IsChamber s d)
decide_chamber s d =
    ⊎_elim
    (λ none. inr (λ h. let low = h.0 in absurd (omega arith)))
    (λ some. ⊎_elim
    (λ over. inr (λ h. let high = h.1 in absurd (omega arith)))
    (λ within. inl (some, within))
    (cases_lt s.size d))
    (cases_lt d 1)

-- It is decided whether a chamber is the least of its cell.
pub decide_least_of_cell : (s : Symbol) → AreInvolutions s → (p : Pair) (d : ℕ) → Decided (IsLeastOfCell s p d)
decide_least_of_cell s inv p d =
    ⊎_elim
    (λ h.
    let l = has_least s inv p d h in
    ⊎_elim
    (λ same. inl (subst (IsLeastOfCell s p) same l.is_least))
    (λ other. inr (λ least. other (sym (least_of_cell_unique s inv p d l.least least l.is_least l.in_cell))))
    (cases_eq l.least d))
    (λ outside. inr (λ least. outside least.0))
    (decide_chamber s d)
