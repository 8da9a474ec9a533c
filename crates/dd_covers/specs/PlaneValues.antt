-- The branching values of oriented flat symbols.
use Rattle.std.specs.Prelude.{◌≡◌, ◌⊎◌, ℕ, ◌≤◌, List, [], ◌∷◌, ◌++◌, map, filter, nat_lt}
use Rattle.std.specs.List.{Contains, sum_by}
use Rattle.dd_model.specs.Symbol.{Symbol, IsChamber}
use Rattle.dd_model.specs.Cell.{IsBranching}
use Rattle.dd_model.specs.declared.pair.Pair.{Pair}
use Rattle.dd_model.specs.declared.pair.Pair.TheVariants.{Tile, Vertex, Edge}
use Rattle.dd_cells.specs.Cells.{AreCellsOf}
use Rattle.dd_cells.specs.declared.cell.Cell.{Cell}

-- the cells of each of the three pairs
abbrev pub AreTheCells : Symbol → (Pair → List Cell) → Type 0
AreTheCells s cells = (p : Pair) → AreCellsOf s p (cells p)

abbrev pub value_of : Cell → ℕ
value_of c = c.v

-- the branching values of all cells
abbrev pub all_values : (Pair → List Cell) → List ℕ
all_values cells = map value_of (cells Tile) ++ map value_of (cells Vertex) ++ map value_of (cells Edge)

-- those above 1
abbrev pub values_above_one : (Pair → List Cell) → List ℕ
values_above_one cells = filter (nat_lt 1) (all_values cells)

-- The two lists have the same members, each as often: every sum over the one is that over the other.
abbrev pub AreArranged : List ℕ → List ℕ → Type 0
AreArranged xs ys = (f : ℕ → ℕ) → sum_by f xs ≡ sum_by f ys

-- the values above 1 of a sphere without curvature, ascending
abbrev pub IsPlaneList : List ℕ → Type 0
IsPlaneList vs =
    (vs ≡ []) ⊎ (vs ≡ 2 ∷ 2 ∷ []) ⊎ (vs ≡ 2 ∷ 3 ∷ 6 ∷ []) ⊎ (vs ≡ 2 ∷ 4 ∷ 4 ∷ []) ⊎ (vs ≡ 3 ∷ 3 ∷ 3 ∷ []) ⊎ (vs ≡ 2 ∷ 2 ∷ 2 ∷ 2 ∷ [])

-- one of these lists, in some order
pub record HasPlaneValues (values : List ℕ) : Type 0 where
  pub order : List ℕ
  pub plane : IsPlaneList order
  pub arranged : AreArranged values order

-- a rotation by a whole turn, or by a half, a third, a quarter or a sixth of one
abbrev pub IsCrystal : ℕ → Type 0
IsCrystal v = Contains (1 ∷ 2 ∷ 3 ∷ 4 ∷ 6 ∷ []) v

-- k is the greatest branching value of the cells of all three pairs
pub record IsGreatestValue (s : Symbol) (k : ℕ) : Type 0 where
  pub pair : Pair
  pub chamber : ℕ
  pub is_chamber : IsChamber s chamber
  pub branching : IsBranching s pair chamber k
  pub greatest : (p : Pair) (d v : ℕ) → IsChamber s d → IsBranching s p d v → v ≤ k
