-- The rule on the walks round cells, as an equation of sums over the white chambers of each cell.
use Rattle.std.proofs.Common.{Bool, ◌%◌, ◌≡◌, ℕ, zero, suc, ◌+◌, ◌/◌, true, not, List, map, refl, sym, ap, ◌∙◌, ⊎_elim, arith}
use Rattle.std.proofs.lemmas.Bool.{cases_Bool}
use Rattle.std.proofs.lemmas.List.Sums.{sum_by-cons}
use Rattle.std.specs.List.{sum_by}
use Rattle.dd_model.specs.declared.index.Index.{Index}
use Rattle.dd_model.specs.declared.index.Index.TheVariants.{Zero, One, Two}
use Rattle.dd_model.specs.declared.pair.Pair.{Pair}
use Rattle.dd_model.specs.declared.pair.Pair.TheVariants.{Tile, Vertex, Edge}
use Rattle.dd_model.specs.Symbol.{Symbol, IsChamber, IsSymbol, op, act, power, turn, first, second}
use Rattle.dd_model.specs.Code.{count_from}
use Rattle.dd_model.specs.Cell.{InCell, IsLeastTurns, IsBranching, turned}
use Rattle.dd_model.proofs.Branching.{branching_same}
use Rattle.dd_model.proofs.CellWalks.{in_cell-refl, in_cell-first}
use Rattle.dd_model.proofs.Turns.{turned-suc, turned-last}
use Rattle.dd_cells.specs.Cells.{AreMembers}
use Rattle.dd_cells.specs.Orientation.{color}
use Rattle.dd_cells.proofs.MemberLemmas.{period_from_turns}
use Rattle.dd_covers.specs.TorusCover.{sum_along, round, AreTorusShifts}
use Rattle.dd_covers.proofs.Congruences.{AreCongruent, congruent_same, congruent, no_remainder}
use Rattle.dd_covers.proofs.ClosedWalks.{sum-backwards}
use Rattle.dd_covers.proofs.Units.{backwards-power}
use Rattle.dd_covers.proofs.WhiteSums.{whites, sum_over_turns}
use Rattle.dd_model.proofs.Words.{backwards}

-- the sum of a function at the chambers of n turns
abbrev turn_sum : Symbol → Pair → (ℕ → ℕ) → ℕ → ℕ → ℕ
turn_sum s p f zero d = 0
turn_sum s p f (suc n) d = f d + turn_sum s p f n (act s (turn p) d)

turn_sum-last : (s : Symbol) (p : Pair) (f : ℕ → ℕ) (n d : ℕ) → turn_sum s p f (suc n) d ≡ turn_sum s p f n d + f (turned s p n d)
turn_sum-last s p f zero d = omega arith
turn_sum-last s p f (suc n) d =
    let rest = turn_sum-last s p f n (act s (turn p) d) in
    let e = ap f (turned-suc s p n d) in
    omega arith

-- after a whole round the sum is that from the next chamber
turn_sum-round : (s : Symbol) (p : Pair) (f : ℕ → ℕ) (r d : ℕ) → turned s p r d ≡ d → turn_sum s p f r (act s (turn p) d) ≡ turn_sum s p f r d
turn_sum-round s p f r d back = let last = turn_sum-last s p f r d in let e = ap f back in omega arith

listed_sum : (s : Symbol) (p : Pair) (f : ℕ → ℕ) (j n d : ℕ) → sum_by f (map (λ i. turned s p i d) (count_from j n)) ≡ turn_sum s p f n (turned s p j d)
listed_sum s p f j zero d = refl
listed_sum s p f j (suc n) d =
    let split = sum_by-cons f (turned s p j d) (map (λ i. turned s p i d) (count_from (j + 1) n)) in
    let rest = listed_sum s p f (j + 1) n d in
    let next : j + 1 ≡ suc j = omega arith in
    let e = ap (turn_sum s p f n) (ap (λ i. turned s p i d) next ∙ turned-last s p j d) in
    omega arith

-- the involutions by which sides count at a cell: those on which the walk goes out, and those on which it comes back
abbrev pub outward : Pair → Index
outward Tile = Zero
outward Vertex = One
outward Edge = Two

abbrev pub inward : Pair → Index
inward Tile = One
inward Vertex = Two
inward Edge = Zero

module _ (s : Symbol) (is : IsSymbol s) (k : ℕ) (x : Index → ℕ → ℕ) (colors : List Bool)
    (exchanged : (i : Index) (d : ℕ) → IsChamber s d → color colors (op s i d) ≡ not (color colors d))
    (opposite : (i : Index) (d : ℕ) → IsChamber s d → (x i d + x i (op s i d)) % k ≡ 0) where
  along_turns : (p : Pair) (n d : ℕ) → IsChamber s d
      → AreCongruent k (sum_along s x (power (turn p) n) d + turn_sum s p (x (second p)) n (act s (turn p) d)) (turn_sum s p (x (first p)) n d)
  along_turns p zero d h = congruent_same k (0 + 0) 0 refl
  along_turns p (suc n) d h =
      let a = first p in
      let b = second p in
      let e = op s a d in
      let he = (is.table.involutions a).within d h in
      let d1 = op s b e in
      let h1 = (is.table.involutions b).within e he in
      let rest = along_turns p n d1 h1 in
      let pair = no_remainder k (x b e + x b d1) (opposite b e he) in
      let p1 = rest.equal in
      let p2 = pair.equal in
      record { up = rest.up + pair.up; down = rest.down + pair.down; equal = omega arith }

  -- round a cell, the sums at white chambers
  module _ (p : Pair) (l d r : ℕ) (h : IsChamber s d) (white : color colors d ≡ true) (turns : IsLeastTurns s p d r)
      (hl : IsChamber s l) (near : InCell s p l d) (members : List ℕ) (are : AreMembers s p l members) where
    white_sum : (f : ℕ → ℕ) → turn_sum s p f r d ≡ sum_by f (whites (color colors) members)
    white_sum f =
        sym (listed_sum s p f 0 r d)
        ∙ sum_over_turns s is.table.involutions (color colors) exchanged p l d r h white (period_from_turns s is.table.involutions p d r h turns) hl near members are f

    by_whites : AreCongruent k (sum_along s x (power (turn p) r) d + sum_by (x (second p)) (whites (color colors) members)) (sum_by (x (first p)) (whites (color colors) members))
    by_whites =
        let c = along_turns p r d h in
        let back = (period_from_turns s is.table.involutions p d r h turns).fixed in
        let shifted = turn_sum-round s p (x (second p)) r d back in
        let out = white_sum (x (first p)) in
        let into = white_sum (x (second p)) in
        let e = c.equal in
        record { up = c.up; down = c.down; equal = omega arith }

  -- from the equation of a cell back to the walk round it
  pub rule_from_equation : (p : Pair) (l d r u : ℕ) → IsChamber s d → color colors d ≡ true → IsLeastTurns s p d r → IsChamber s l → InCell s p l d
      → (members : List ℕ) → AreMembers s p l members
      → AreCongruent k (u + sum_by (x (inward p)) (whites (color colors) members)) (sum_by (x (outward p)) (whites (color colors) members))
      → AreCongruent k (sum_along s x (power (round p) r) d) u
  rule_from_equation Tile l d r u h white turns hl near members are equation =
      let c = by_whites Tile l d r h white turns hl near members are in
      let e = c.equal in
      let f = equation.equal in
      record { up = c.up + equation.down; down = c.down + equation.up; equal = omega arith }
  rule_from_equation Vertex l d r u h white turns hl near members are equation =
      let c = by_whites Vertex l d r h white turns hl near members are in
      let e = c.equal in
      let f = equation.equal in
      record { up = c.up + equation.down; down = c.down + equation.up; equal = omega arith }
  rule_from_equation Edge l d r u h white turns hl near members are equation =
      let inv = is.table.involutions in
      let c = by_whites Edge l d r h white turns hl near members are in
      let back = (period_from_turns s inv Edge d r h turns).fixed in
      let around = sum-backwards s inv k x opposite (power (turn Edge) r) d h in
      let same : sum_along s x (backwards (power (turn Edge) r)) (act s (power (turn Edge) r) d) ≡ sum_along s x (power (round Edge) r) d =
      ap (sum_along s x (backwards (power (turn Edge) r))) back ∙ ap (λ w. sum_along s x w d) (backwards-power (turn Edge) r) in
      let e = c.equal in
      let f = equation.equal in
      let g = around.equal in
      record { up = c.down + equation.down + around.up; down = c.up + equation.up + around.down; equal = omega arith }

module _ (s : Symbol) (is : IsSymbol s) (k : ℕ) (x : Index → ℕ → ℕ) (shifts : AreTorusShifts s k x) where
  -- the equation of a cell
  abbrev pub IsCellEquation : Pair → ℕ → List ℕ → Type 0
  IsCellEquation p v ws = AreCongruent k (k / v + sum_by (x (inward p)) ws) (sum_by (x (outward p)) ws)

  equation_at : (p : Pair) (l d r v : ℕ) → IsChamber s d → color shifts.colors d ≡ true → IsLeastTurns s p d r → IsBranching s p d v → IsChamber s l → InCell s p l d
      → (members : List ℕ) → AreMembers s p l members → IsCellEquation p v (whites (color shifts.colors) members)
  equation_at Tile l d r v h white turns b hl near members are =
      let c = by_whites s is k x shifts.colors shifts.are_colors.exchanged shifts.opposite Tile l d r h white turns hl near members are in
      let rule = congruent k _ (k / v) (shifts.rounds Tile d r v h white turns b) in
      let e = c.equal in
      let f = rule.equal in
      record { up = c.up + rule.down; down = c.down + rule.up; equal = omega arith }
  equation_at Vertex l d r v h white turns b hl near members are =
      let c = by_whites s is k x shifts.colors shifts.are_colors.exchanged shifts.opposite Vertex l d r h white turns hl near members are in
      let rule = congruent k _ (k / v) (shifts.rounds Vertex d r v h white turns b) in
      let e = c.equal in
      let f = rule.equal in
      record { up = c.up + rule.down; down = c.down + rule.up; equal = omega arith }
  equation_at Edge l d r v h white turns b hl near members are =
      let inv = is.table.involutions in
      let c = by_whites s is k x shifts.colors shifts.are_colors.exchanged shifts.opposite Edge l d r h white turns hl near members are in
      let rule = congruent k _ (k / v) (shifts.rounds Edge d r v h white turns b) in
      let back = (period_from_turns s inv Edge d r h turns).fixed in
      let around = sum-backwards s inv k x shifts.opposite (power (turn Edge) r) d h in
      let same : sum_along s x (backwards (power (turn Edge) r)) (act s (power (turn Edge) r) d) ≡ sum_along s x (power (round Edge) r) d =
      ap (sum_along s x (backwards (power (turn Edge) r))) back ∙ ap (λ w. sum_along s x w d) (backwards-power (turn Edge) r) in
      let e = c.equal in
      let f = rule.equal in
      let g = around.equal in
      record { up = c.down + rule.down + around.up; down = c.up + rule.up + around.down; equal = omega arith }

  -- Each cell has a white chamber.
  pub cell_equation : (p : Pair) (l v : ℕ) → IsChamber s l → IsBranching s p l v → (members : List ℕ) → AreMembers s p l members
      → IsCellEquation p v (whites (color shifts.colors) members)
  cell_equation p l v h b members are =
      ⊎_elim
      (λ white. equation_at p l l b.r v h white b.least_turns b h (in_cell-refl s p l) members are)
      (λ black.
      let a = first p in
      let near = in_cell-first s p l l (in_cell-refl s p l) in
      let there = branching_same s is p l (op s a l) v h near b in
      equation_at p l (op s a l) there.r v ((is.table.involutions a).within l h) (shifts.are_colors.exchanged a l h ∙ ap not black) there.least_turns there h near members are)
      (cases_Bool (color shifts.colors l))
