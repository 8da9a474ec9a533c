-- What the edges of a symbol are in its net. An edge is told by its least chamber d; its vertices are those of d and of its
-- image by s0, and the tiles at its sides are those of d and of its image by s2.
use Rattle.std.specs.Prelude.{◌≡◌, ℕ, ◌+◌, ◌<◌, Bool, true, false, List, length, slice_index, slice_index_or}
use Rattle.dd_model.specs.Symbol.{Symbol, IsChamber, op}
use Rattle.dd_model.specs.Cell.{IsLeastOfCell}
use Rattle.dd_model.specs.declared.index.Index.{Index}
use Rattle.dd_model.specs.declared.index.Index.TheVariants.{Zero, Two}
use Rattle.dd_model.specs.declared.pair.Pair.{Pair}
use Rattle.dd_model.specs.declared.pair.Pair.TheVariants.{Tile, Vertex, Edge}
use Rattle.dd_symbol.specs.Cells.{IsLeastFor}
use Rattle.dd_covers.specs.Ends.{Holds}
use Rattle.dd_union_find.specs.Parts.{IsFalling, IsLevel}
use Rattle.dd_lattice.specs.declared.kinds.EdgeKind.{EdgeKind}
use Rattle.dd_lattice.specs.declared.kinds.EdgeKind.TheVariants.{Tree, Crossing, Left}

-- a value for each chamber, which is that of the chamber's cell
abbrev pub IsOfCells : Symbol → Pair → (ℕ → ℕ) → Type 0
IsOfCells t p g = (i : Index) (d : ℕ) → IsChamber t d → Holds p i → g (op t i d) ≡ g d

-- Smaller edges that count join the two cells of an edge: no value of cells that is equal at both cells of each of them differs
-- at the two cells.
abbrev pub AreCellsJoined : Symbol → Pair → Index → (ℕ → Type 0) → ℕ → Type 0
AreCellsJoined t p i Counts d = (g : ℕ → ℕ) → IsOfCells t p g
    → ((e : ℕ) → IsLeastOfCell t Edge e → Counts e → e < d → g (op t i e) ≡ g e) → g (op t i d) ≡ g d

-- its two vertices are not joined by smaller edges
abbrev pub IsTreeEdge : Symbol → ℕ → Type 0
IsTreeEdge t d = ¬ AreCellsJoined t Vertex Zero (λ e. Unit {0}) d

-- its two tiles are joined across smaller edges that are no tree edges
abbrev pub AreTilesJoined : Symbol → ℕ → Type 0
AreTilesJoined t d = AreCellsJoined t Tile Two (λ e. ¬ IsTreeEdge t e) d

-- A tree edge, an edge that is none and whose tiles are not joined across smaller ones that are none, or one that is left.
abbrev pub IsKindOf : Symbol → ℕ → EdgeKind → Type 0
IsKindOf t d Tree = IsTreeEdge t d
IsKindOf t d Crossing = (¬ IsTreeEdge t d) × (¬ AreTilesJoined t d)
IsKindOf t d Left = (¬ IsTreeEdge t d) × AreTilesJoined t d

-- the kinds of listed edges
pub record AreKindsOf (t : Symbol) (edges : List ℕ) (kinds : List EdgeKind) : Type 0 where
  pub many : length kinds ≡ length edges
  pub each : (k : ℕ) (d : EdgeKind) → k < length edges → IsKindOf t (slice_index edges k) (slice_index_or kinds k d)

-- whether an edge is of a kind
abbrev pub is_tree : EdgeKind → Bool
is_tree Tree = true
is_tree Crossing = false
is_tree Left = false

abbrev pub is_crossing : EdgeKind → Bool
is_crossing Tree = false
is_crossing Crossing = true
is_crossing Left = false

abbrev pub is_left : EdgeKind → Bool
is_left Tree = false
is_left Crossing = false
is_left Left = true

-- ## As they are found

-- a function of least chambers is equal at the two cells of each of the first edges that count
abbrev pub IsLevelTo : Symbol → Pair → Index → (ℕ → Type 0) → List ℕ → ℕ → (ℕ → ℕ) → Type 0
IsLevelTo t p i Counts edges n h = (q a b : ℕ) → q < n → q < length edges → Counts (slice_index edges q)
    → IsLeastFor t p (slice_index edges q) a → IsLeastFor t p (op t i (slice_index edges q)) b → h a ≡ h b

-- Nodes are least chambers of cells; those of the first edges that count are joined, and no others.
pub record IsForestTo (t : Symbol) (p : Pair) (i : Index) (Counts : ℕ → Type 0) (edges : List ℕ) (n : ℕ) (above : List ℕ) : Type 0 where
  pub nodes : length above ≡ t.size + 1
  pub falls : IsFalling above
  pub level : (h : ℕ → ℕ) → IsLevelTo t p i Counts edges n h → IsLevel above h
  pub linked : (h : ℕ → ℕ) → IsLevel above h → IsLevelTo t p i Counts edges n h

abbrev pub AreVerticesTo : Symbol → List ℕ → ℕ → List ℕ → Type 0
AreVerticesTo t = IsForestTo t Vertex Zero (λ e. Unit {0})

abbrev pub AreTilesTo : Symbol → List ℕ → ℕ → List ℕ → Type 0
AreTilesTo t = IsForestTo t Tile Two (λ e. ¬ IsTreeEdge t e)
