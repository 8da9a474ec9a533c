-- What a walk through a cell lists.
use Rattle.std.proofs.Common.{◌≡◌, ◌↔◌, ℕ, zero, suc, ◌+◌, ◌*◌, ◌<◌, ◌≤◌, List, [], ◌∷◌, ◌++◌, length, map, take, slice_index, sym, ap, ◌∙◌, subst, inl, inr, ⊎_elim, arith}
use Rattle.std.specs.List.{AllByRecursion, Contains}
use Rattle.std.proofs.lemmas.List.{map-append, take_more}
use Rattle.std.proofs.lemmas.List.Elements.{Contains-push, Contains-push_cases, Contains-append_left}
use Rattle.dd_model.specs.declared.pair.Pair.{Pair}
use Rattle.dd_model.specs.Symbol.{Symbol, IsSymbol, AreInvolutions, IsChamber, first, op, degree}
use Rattle.dd_model.specs.Cell.{InCell, turned, IsPeriod, IsLeastTurns, IsBranching}
use Rattle.dd_model.proofs.Turns.{IsLeastTurns-from_period, least_turns_unique}
use Rattle.dd_model.proofs.CellWalks.{IsMet, met_cases, met_later, met_from_in_cell, in_cell_from_met, has_period}
use Rattle.dd_cells.specs.declared.cell.Cell.{Cell}

-- ## The chambers that are met

-- the list holds what k turns from d meet
abbrev pub AreMet : Symbol → Pair → ℕ → ℕ → List ℕ → Type 0
AreMet s p d k xs = (e : ℕ) → Contains xs e ↔ IsMet s p d k e

pub met_more : (s : Symbol) (p : Pair) (d k place : ℕ) (xs : List ℕ) → place ≡ turned s p k d → AreMet s p d k xs
    → AreMet s p d (k + 1) ((xs ++ place ∷ []) ++ op s (first p) place ∷ [])
met_more s p d k place xs at are e = (
  λ listed.
      ⊎_elim
      (λ earlier.
      ⊎_elim
      (λ old. met_later s p d k e ((are e).0 old))
      (λ here. record { turns = k; below = omega arith; place = inl (sym at ∙ here) })
      (Contains-push_cases xs place e earlier))
      (λ beside. record { turns = k; below = omega arith; place = inr (ap (op s (first p)) (sym at) ∙ beside) })
      (Contains-push_cases (xs ++ place ∷ []) (op s (first p) place) e listed),
  λ met.
      ⊎_elim
      (λ old. longer e (Contains-append_left xs (place ∷ []) e ((are e).1 old)))
      (λ new.
      ⊎_elim
      (λ here. let is : place ≡ e = at ∙ here in longer e (subst (Contains (xs ++ place ∷ [])) is (Contains-push xs place)))
      (λ beside.
      let is : op s (first p) place ≡ e = ap (op s (first p)) at ∙ beside in
      subst (Contains ((xs ++ place ∷ []) ++ op s (first p) place ∷ [])) is (Contains-push (xs ++ place ∷ []) (op s (first p) place)))
      new)
      (met_cases s p d k e met),
) where
  longer : (e : ℕ) → Contains (xs ++ place ∷ []) e → Contains ((xs ++ place ∷ []) ++ op s (first p) place ∷ []) e
  longer e listed = Contains-append_left (xs ++ place ∷ []) (op s (first p) place ∷ []) e listed

-- the least number of turns of a cell is the period of each chamber
pub period_from_turns : (s : Symbol) → AreInvolutions s → (p : Pair) (d r : ℕ) → IsChamber s d → IsLeastTurns s p d r → IsPeriod s p d r
period_from_turns s inv p d r h turns =
    let has = has_period s inv p d h in
    let same : has.r ≡ r = least_turns_unique s p d has.r r (IsLeastTurns-from_period s inv p d has.r h has.period) turns in
    subst (IsPeriod s p d) same has.period

-- A whole round meets the cell.
pub cell_from_met : (s : Symbol) → AreInvolutions s → (p : Pair) (d r : ℕ) (xs : List ℕ) → IsChamber s d → IsLeastTurns s p d r → AreMet s p d r xs
    → (e : ℕ) → Contains xs e ↔ InCell s p d e
cell_from_met s inv p d r xs h turns are e = (
  λ listed. in_cell_from_met s p d r e ((are e).0 listed),
  λ there. (are e).1 (met_from_in_cell s inv p d r e h (period_from_turns s inv p d r h turns) there),
)

-- ## Turns and branching values

some_value : (v r m : ℕ) → 1 ≤ m → v * r ≡ m → 1 ≤ v
some_value zero r m low e = omega arith
some_value (suc v) r m low e = omega arith

pub value_positive : (s : Symbol) → IsSymbol s → (p : Pair) (d v : ℕ) → IsChamber s d → IsBranching s p d v → 1 ≤ v
value_positive s is p d v h b = some_value v b.r (degree s p d) (is.degrees p d h).positive b.quotient

-- ## One more

-- the least chambers of a list of cells, one more being told
pub least_more : (cells : List Cell) (cell : Cell) (chambers : List ℕ) (k : ℕ) → map (λ (c : Cell). c.least) cells ≡ take k chambers → k < length chambers → cell.least ≡ slice_index chambers k
    → map (λ (c : Cell). c.least) (cells ++ cell ∷ []) ≡ take (k + 1) chambers
least_more cells cell chambers k before below is =
    map-append (λ (c : Cell). c.least) cells (cell ∷ [])
    ∙ ap (λ xs. xs ++ cell.least ∷ []) before
    ∙ ap (λ x. take k chambers ++ x ∷ []) is
    ∙ sym (take_more chambers k 0 below)

-- what holds of the listed cells and of one more
pub each_more : (P : Cell → Type 0) (cells : List Cell) (cell : Cell) → AllByRecursion P cells → P cell → AllByRecursion P (cells ++ cell ∷ [])
each_more P [] cell all one = (one, tt)
each_more P (c ∷ cells) cell all one = (all.0, each_more P cells cell all.1 one)
