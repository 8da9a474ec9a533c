-- Whether the surface of a symbol has two sides that can be told apart.
use Rattle.std.specs.Prelude.{◌≡◌, ◌≢◌, ◌⊎◌, ℕ, ◌-◌, Bool, false, not, List, slice_index_or}
use Rattle.dd_model.specs.Symbol.{Symbol, IsChamber, op}
use Rattle.dd_model.specs.declared.index.Index.{Index}
use Rattle.dd_cells.specs.declared.orientations.Orientation.{Orientation}
use Rattle.dd_cells.specs.declared.orientations.Orientation.TheVariants.{Oriented, Weak, None}

-- the color of a chamber, one of two
abbrev pub color : List Bool → ℕ → Bool
color colors d = slice_index_or colors (d - 1) false

-- each involution takes each chamber to one of the other color, but for the chambers that it fixes
abbrev pub AreWeakColors : Symbol → List Bool → Type 0
AreWeakColors s colors = (i : Index) (d : ℕ) → IsChamber s d → op s i d ≢ d → color colors (op s i d) ≡ not (color colors d)

-- some coloring in two colors is exchanged by each involution on the chambers that it moves
pub record HasWeakColors (s : Symbol) : Type 0 where
  pub colors : List Bool
  pub exchanged : AreWeakColors s colors

-- no involution fixes a chamber, and some coloring in two colors is exchanged by each of them
pub record IsOriented (s : Symbol) : Type 0 where
  pub free : (i : Index) (d : ℕ) → IsChamber s d → op s i d ≢ d
  pub colors : List Bool
  pub exchanged : (i : Index) (d : ℕ) → IsChamber s d → color colors (op s i d) ≡ not (color colors d)

-- the orientation of a symbol
abbrev pub IsOrientation : Symbol → Orientation → Type 0
IsOrientation s Oriented = IsOriented s
IsOrientation s Weak = (¬ IsOriented s) × HasWeakColors s
IsOrientation s None = (¬ IsOriented s) × (¬ HasWeakColors s)

-- the surface is orientable
abbrev pub IsOrientable : Symbol → Type 0
IsOrientable s = IsOriented s ⊎ HasWeakColors s
