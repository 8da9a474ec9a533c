-- Round every cell, from any chamber and by the turns of its pair, the shifts of a torus cover add to k / v or to its opposite.
use Rattle.std.proofs.Common.{◌≡◌, ℕ, zero, suc, ◌+◌, ◌/◌, ◌⊎◌, true, false, not, [], ◌∷◌, ◌++◌, refl, sym, ap, ◌∙◌, inl, inr, ⊎_elim, arith}
use Rattle.std.proofs.lemmas.Bool.{cases_Bool}
use Rattle.std.proofs.lemmas.List.{append_assoc, append-nil}
use Rattle.dd_model.specs.declared.index.Index.{Index}
use Rattle.dd_model.specs.declared.pair.Pair.{Pair}
use Rattle.dd_model.specs.declared.pair.Pair.TheVariants.{Tile, Vertex, Edge}
use Rattle.dd_model.specs.Symbol.{Symbol, IsChamber, IsSymbol, Word, op, act, power, turn, first, second}
use Rattle.dd_model.specs.Cell.{turned, IsLeastTurns, IsBranching}
use Rattle.dd_model.proofs.Branching.{branching_same, turns-along}
use Rattle.dd_model.proofs.CellWalks.{in_cell-refl, in_cell-first}
use Rattle.dd_model.proofs.Words.{backwards}
use Rattle.dd_cells.specs.Orientation.{color}
use Rattle.dd_cells.proofs.MemberLemmas.{period_from_turns}
use Rattle.dd_covers.specs.TorusCover.{sum_along, round, AreTorusShifts}
use Rattle.dd_covers.proofs.Congruences.{AreCongruent, congruent_same, congruent_on, congruent}
use Rattle.dd_covers.proofs.ClosedWalks.{sum-append, sum-backwards}

-- the unit or its opposite
abbrev pub IsUnit : ℕ → ℕ → ℕ → Type 0
IsUnit k u total = AreCongruent k total u ⊎ AreCongruent k (total + u) 0

-- the opposite of a unit is one
unit_turned : (k u a b : ℕ) → AreCongruent k (a + b) 0 → IsUnit k u a → IsUnit k u b
unit_turned k u a b none (inl c) =
    let p = none.equal in
    let q = c.equal in
    inr (record { up = none.up + c.down; down = none.down + c.up; equal = omega arith })
unit_turned k u a b none (inr c) =
    let p = none.equal in
    let q = c.equal in
    inl (record { up = none.up + c.down; down = none.down + c.up; equal = omega arith })

-- ## Turns backwards

backwards-append : (v w : Word) → backwards (v ++ w) ≡ backwards w ++ backwards v
backwards-append [] w = sym (append-nil (backwards w))
backwards-append (i ∷ v) w = ap (λ u. u ++ i ∷ []) (backwards-append v w) ∙ append_assoc (backwards w) (backwards v) (i ∷ [])

power-last : (w : Word) (r : ℕ) → power w r ++ w ≡ w ++ power w r
power-last w zero = sym (append-nil w)
power-last w (suc r) = append_assoc w (power w r) w ∙ ap (λ u. w ++ u) (power-last w r)

pub backwards-power : (w : Word) (r : ℕ) → backwards (power w r) ≡ power (backwards w) r
backwards-power w zero = refl
backwards-power w (suc r) = backwards-append w (power w r) ∙ ap (λ u. u ++ backwards w) (backwards-power w r) ∙ power-last (backwards w) r

-- one letter, and then turns that begin with the other
letter_first : (a b : Index) (r : ℕ) → a ∷ power (b ∷ a ∷ []) r ≡ power (a ∷ b ∷ []) r ++ a ∷ []
letter_first a b zero = refl
letter_first a b (suc r) = ap (λ (u : Word). a ∷ b ∷ u) (letter_first a b r)

module _ (s : Symbol) (is : IsSymbol s) (k : ℕ) (x : Index → ℕ → ℕ) (shifts : AreTorusShifts s k x) where
  -- by the rule, from a white chamber
  unit_of_rule : (p : Pair) (d r v : ℕ) → IsChamber s d → turned s p r d ≡ d
      → AreCongruent k (sum_along s x (power (round p) r) d) (k / v) → IsUnit k (k / v) (sum_along s x (power (turn p) r) d)
  unit_of_rule Tile d r v h back rule = inl rule
  unit_of_rule Vertex d r v h back rule = inl rule
  unit_of_rule Edge d r v h back rule =
      let around = sum-backwards s is.table.involutions k x shifts.opposite (power (turn Edge) r) d h in
      let e : sum_along s x (backwards (power (turn Edge) r)) (act s (power (turn Edge) r) d) ≡ sum_along s x (power (round Edge) r) d =
      ap (sum_along s x (backwards (power (turn Edge) r))) back ∙ ap (λ w. sum_along s x w d) (backwards-power (turn Edge) r) in
      let same : AreCongruent k (sum_along s x (power (round Edge) r) d + sum_along s x (power (turn Edge) r) d) 0 =
      congruent_on k _ _ 0 (congruent_same k _ (sum_along s x (power (turn Edge) r) d + sum_along s x (backwards (power (turn Edge) r)) (act s (power (turn Edge) r) d)) (omega arith)) around in
      unit_turned k (k / v) (sum_along s x (power (round Edge) r) d) (sum_along s x (power (turn Edge) r) d) same (inl rule)

  unit_white : (p : Pair) (d r v : ℕ) → IsChamber s d → color shifts.colors d ≡ true → IsLeastTurns s p d r → IsBranching s p d v
      → IsUnit k (k / v) (sum_along s x (power (turn p) r) d)
  unit_white p d r v h white turns branching =
      unit_of_rule p d r v h (period_from_turns s is.table.involutions p d r h turns).fixed (congruent k _ (k / v) (shifts.rounds p d r v h white turns branching))

  unit_black : (p : Pair) (d r v : ℕ) → IsChamber s d → color shifts.colors d ≡ false → IsLeastTurns s p d r → IsBranching s p d v
      → IsUnit k (k / v) (sum_along s x (power (turn p) r) d)
  unit_black p d r v h black turns branching =
      let inv = is.table.involutions in
      let a = first p in
      let b = second p in
      let e = op s a d in
      let he = (inv a).within d h in
      let near = in_cell-first s p d d (in_cell-refl s p d) in
      let white : color shifts.colors e ≡ true = shifts.are_colors.exchanged a d h ∙ ap not black in
      let there = turns-along s inv p d e r h near turns in
      let unit = unit_white p e r v he white there (branching_same s is p d e v h near branching) in
      let back_d = (period_from_turns s inv p d r h turns).fixed in
      let back_e = (period_from_turns s inv p e r he there).fixed in
      let around = sum-backwards s inv k x shifts.opposite (power (turn p) r) e he in
      let reversed : sum_along s x (backwards (power (turn p) r)) (act s (power (turn p) r) e) ≡ sum_along s x (power (b ∷ a ∷ []) r) e =
      ap (sum_along s x (backwards (power (turn p) r))) back_e ∙ ap (λ w. sum_along s x w e) (backwards-power (turn p) r) in
      let long = ap (λ w. sum_along s x w d) (letter_first a b r) in
      let split = sum-append s x (power (turn p) r) (a ∷ []) d in
      let last : sum_along s x (a ∷ []) (act s (power (turn p) r) d) ≡ x a d + 0 = ap (sum_along s x (a ∷ [])) back_d in
      let same : AreCongruent k (sum_along s x (power (turn p) r) e + sum_along s x (power (turn p) r) d) 0 =
      congruent_on k _ _ 0 (congruent_same k _ (sum_along s x (power (turn p) r) e + sum_along s x (backwards (power (turn p) r)) (act s (power (turn p) r) e)) (omega arith)) around in
      unit_turned k (k / v) (sum_along s x (power (turn p) r) e) (sum_along s x (power (turn p) r) d) same unit

  pub unit_round : (p : Pair) (d r v : ℕ) → IsChamber s d → IsLeastTurns s p d r → IsBranching s p d v → IsUnit k (k / v) (sum_along s x (power (turn p) r) d)
  unit_round p d r v h turns branching =
      ⊎_elim
      (λ white. unit_white p d r v h white turns branching)
      (λ black. unit_black p d r v h black turns branching)
      (cases_Bool (color shifts.colors d))
