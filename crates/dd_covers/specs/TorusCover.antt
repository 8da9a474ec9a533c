-- The torus cover of a flat symbol, by four rules on the shifts of its sheets.
use Rattle.std.specs.Prelude.{◌≡◌, ℕ, ◌+◌, ◌/◌, ◌%◌, ◌<◌, ◌≤◌, Bool, true, not, List, [], ◌∷◌, map}
use Rattle.dd_model.specs.Symbol.{Symbol, IsChamber, Word, item, op, power}
use Rattle.dd_model.specs.Cell.{IsLeastTurns, IsBranching}
use Rattle.dd_model.specs.declared.index.Index.{Index}
use Rattle.dd_model.specs.declared.index.Index.TheVariants.{Zero, One, Two}
use Rattle.dd_model.specs.declared.pair.Pair.{Pair}
use Rattle.dd_model.specs.declared.pair.Pair.TheVariants.{Tile, Vertex, Edge}
use Rattle.dd_model.specs.Flat.{Flat}
use Rattle.dd_cells.specs.Orientation.{IsOriented, color}
use Rattle.dd_covers.specs.OrientedCover.{IsOrientedCover}
use Rattle.dd_covers.specs.PlaneValues.{IsGreatestValue}
use Rattle.dd_covers.specs.Sheets.{sheets_of, below_sheets}
use Rattle.dd_covers.specs.Visits.{IsVisitOrder, IsFirstStep, IsFree, AreEndsJoined}

-- the sum of the shifts along a word
abbrev pub sum_along : Symbol → (Index → ℕ → ℕ) → Word → ℕ → ℕ
sum_along s x [] d = 0
sum_along s x (i ∷ w) d = x i d + sum_along s x w (op s i d)

-- one turn of the walk round a cell: s0 and s1 round a tile, s1 and s2 round a vertex, s2 and s0 round an edge
abbrev pub round : Pair → Word
round Tile = Zero ∷ One ∷ []
round Vertex = One ∷ Two ∷ []
round Edge = Two ∷ Zero ∷ []

-- ## The rules

-- two colors, which each involution exchanges; chamber 1 is white
pub record AreColors (s : Symbol) (colors : List Bool) : Type 0 where
  pub exchanged : (i : Index) (d : ℕ) → IsChamber s d → color colors (op s i d) ≡ not (color colors d)
  pub white : color colors 1 ≡ true

-- the four rules for the shifts, modulo k
pub record AreTorusShifts (s : Symbol) (k : ℕ) (x : Index → ℕ → ℕ) : Type 0 where
  pub below : (i : Index) (d : ℕ) → IsChamber s d → x i d < k
  pub colors : List Bool
  pub are_colors : AreColors s colors
  pub order : List ℕ
  pub visits : IsVisitOrder s order
  -- The way back has the opposite shift.
  pub opposite : (i : Index) (d : ℕ) → IsChamber s d → (x i d + x i (op s i d)) % k ≡ 0
  -- Round a cell, from a white chamber, the shifts add to k / v.
  pub rounds : (p : Pair) (d r v : ℕ) → IsChamber s d → color colors d ≡ true → IsLeastTurns s p d r → IsBranching s p d v
      → sum_along s x (power (round p) r) d % k ≡ k / v % k
  -- Where a chamber is first reached there is no shift.
  pub first_steps : (i : Index) (d : ℕ) → IsChamber s d → IsFirstStep s order i d → x i d ≡ 0
  -- There is none on a free side whose ends earlier ones join.
  pub joined : (i : Index) (d : ℕ) → IsFree s order i d → AreEndsJoined s order i d → x i d ≡ 0

-- some shifts follow the rules
pub record HasTorusShifts (s : Symbol) (k : ℕ) : Type 0 where
  pub shifts : Index → ℕ → ℕ
  pub are : AreTorusShifts s k shifts

-- ## The cover

-- an oriented flat symbol that is not too large for the sheets of its torus cover
pub record IsTorusBase (s : Symbol) : Type 0 where
  pub few : s.size ≤ 2048
  pub oriented : IsOriented s
  pub flat : Flat s

-- the torus cover of an oriented flat symbol, of k sheets
pub record IsTorusCoverOf (s : Symbol) (k : ℕ) (t : Symbol) (below : List ℕ) : Type 0 where
  pub greatest : IsGreatestValue s k
  pub shifts : Index → ℕ → ℕ
  pub are_shifts : AreTorusShifts s k shifts
  pub cover : t ≡ sheets_of s k shifts
  pub is_below : below ≡ below_sheets s k

-- the torus cover of a flat symbol, which is that of its oriented cover
pub record IsTorusCover (s t : Symbol) (below : List ℕ) : Type 0 where
  pub middle : Symbol
  pub lower : List ℕ
  pub oriented : IsOrientedCover s middle lower
  pub sheets : ℕ
  pub upper : List ℕ
  pub torus : IsTorusCoverOf middle sheets t upper
  pub composed : below ≡ map (item lower) upper

-- some symbol is the torus cover
pub record HasTorusCover (s : Symbol) : Type 0 where
  pub cover : Symbol
  pub below : List ℕ
  pub is : IsTorusCover s cover below
