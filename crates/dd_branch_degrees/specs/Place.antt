-- What a table tells of one degree.
use Rattle.std.specs.Prelude.{◌≡◌, ◌≢◌, ◌⊎◌, ℕ, ◌+◌, ◌*◌, ◌/◌, ◌<◌, ◌≤◌, List, [], ◌∷◌, ◌++◌, length, slice_index, slice_index_or}
use Rattle.dd_model.specs.declared.allowed.Allowed.{Allowed}
use Rattle.dd_model.specs.declared.pair.Pair.{Pair}
use Rattle.dd_model.specs.declared.pair.Pair.TheVariants.{Tile, Vertex}
use Rattle.dd_model.specs.declared.requests.Request.{Request}
use Rattle.dd_model.specs.Symbol.{Symbol}
use Rattle.dd_symbol.specs.Cells.{IsShapeOf}
use Rattle.dd_symbol.specs.declared.kind.Kind.{Kind}
use Rattle.dd_symbol.specs.declared.kind.Kind.TheVariants.{Cycle, Chain}
use Rattle.dd_symbol.specs.declared.shapes.CellShape.{CellShape}
use Rattle.dd_branch_degrees.specs.Choice.{HasShares, IsChoice}
use Rattle.dd_branch_degrees.specs.declared.places.DegreeSlot.{DegreeSlot}
use Rattle.dd_model.specs.Cell.{InCell}

-- how many chambers a cell has for each turn
abbrev pub sides_of : Kind → ℕ
sides_of Cycle = 2
sides_of Chain = 1

-- so many sides at the least chamber of a cell, and none at the others
abbrev pub HasSides : CellShape → ℕ → ℕ → Type 0
HasSides shape d sides = ((shape.least ≡ d) × (sides ≡ sides_of shape.kind)) ⊎ ((shape.least ≢ d) × (sides ≡ 0))

-- bounds of the parts of all degrees that may stand at a place
pub record AreBounds (set : Allowed) (x : DegreeSlot) : Type 0 where
  pub most : (m : ℕ) (c : IsChoice set x.turns m) → x.sides * (12 / c.value) ≤ x.most
  pub sides : x.sides ≤ 2
  pub most_small : x.most ≤ x.sides * 12

-- What is said of the degree of a pair at a chamber d. Chamber 1 has the place that is handed in.
pub record IsPlaceOf (t : Symbol) (set : Allowed) (p : Pair) (first d : ℕ) (x : DegreeSlot) : Type 0 where
  pub shape : CellShape
  pub is_shape : IsShapeOf t p d shape
  pub root : x.root + 1 ≡ first + shape.least
  pub turns : x.turns ≡ shape.r
  pub few : x.turns ≤ 36
  pub sides : HasSides shape d x.sides
  pub shares : 1 ≤ x.sides → HasShares set x.turns x.sides x.shares
  pub bounds : AreBounds set x

-- The place of a chamber was added to a list.
pub record HasPlaceOf (t : Symbol) (set : Allowed) (p : Pair) (first d : ℕ) (old new : List DegreeSlot) : Type 0 where
  pub place : DegreeSlot
  pub added : new ≡ old ++ place ∷ []
  pub is : IsPlaceOf t set p first d place

-- A pair's places were added to a list, those of the first m chambers.
pub record HasPlaces (t : Symbol) (set : Allowed) (p : Pair) (old : List DegreeSlot) (m : ℕ) (new : List DegreeSlot) : Type 0 where
  pub longer : length new ≡ length old + m
  pub kept : (j : ℕ) (x : DegreeSlot) → j < length old → slice_index_or new j x ≡ slice_index_or old j x
  pub each : (k : ℕ) (x : DegreeSlot) → k < m → IsPlaceOf t set p (length old) (k + 1) (slice_index_or new (length old + k) x)

-- the numbers of turns of the first m places
pub record AreTurnsUpTo (places : List DegreeSlot) (m : ℕ) (turns : List ℕ) : Type 0 where
  pub count : length turns ≡ m
  pub each : (j : ℕ) (x : DegreeSlot) → j < m → slice_index turns j ≡ (slice_index_or places j x).turns

-- those of all
abbrev pub AreTurns : List DegreeSlot → List ℕ → Type 0
AreTurns places turns = AreTurnsUpTo places (length places) turns

-- the places of all tiles, and then those of all vertices
pub record ArePlaces (q : Request) (t : Symbol) (places : List DegreeSlot) : Type 0 where
  pub count : length places ≡ 2 * t.size
  pub tiles : (k : ℕ) (x : DegreeSlot) → k < t.size → IsPlaceOf t q.faces Tile 0 (k + 1) (slice_index_or places k x)
  pub vertices : (k : ℕ) (x : DegreeSlot) → k < t.size → IsPlaceOf t q.degrees Vertex t.size (k + 1) (slice_index_or places (t.size + k) x)

-- another chamber of the cell of d, which is smaller
pub record IsSmallerInCell (s : Symbol) (p : Pair) (d e : ℕ) : Type 0 where
  pub smaller : e < d
  pub in_cell : InCell s p d e
