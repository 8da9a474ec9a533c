-- The tables as rows of fractions: whole ones, and one in the middle of a step.
use Rattle.std.specs.Prelude.{◌≡◌, ◌≢◌, ◌⊎◌, ℕ, suc, ◌+◌, ◌<◌, ◌≤◌, List, [], map, length, slice_index_or, Vec}
use Rattle.std.specs.Global.{Global}
use Rattle.dd_cells.specs.declared.fractions.Fraction.{Fraction}
use Rattle.dd_lattice.specs.declared.net.Net.{Net}
use Rattle.dd_draw.specs.Elimination.{entry}
use Rattle.dd_draw.specs.Limit.{IsNarrow}
use Rattle.dd_draw.specs.Rows.{number_at}
use Rattle.dd_draw.specs.Width.{Place, IsPlaceOf, IsWideAt, IsFirstWide}
use Rattle.dd_draw.specs.declared.place_fault.PlaceFault.{PlaceFault}
use Rattle.dd_draw.specs.declared.place_fault.PlaceFault.TheVariants.{TooManyVertices, TooWide, Memory}

abbrev pub items_of : Vec Fraction Global → List Fraction
items_of row = row.items

-- the rows as lists
abbrev pub lists : List (Vec Fraction Global) → List (List Fraction)
lists rows = map items_of rows

-- a row, rows being counted from 0
abbrev pub row_at : List (List Fraction) → ℕ → List Fraction
row_at rows i = slice_index_or rows i []

-- the place of a step, a row and a column
abbrev pub place_at : ℕ → ℕ → ℕ → Place
place_at k i j = record { step = k; row = i; column = j }

-- row i of table k
pub record IsRowOf (net : Net) (k i : ℕ) (row : List Fraction) : Type 0 where
  pub many : length row ≡ net.vertices + 1
  pub each : (j : ℕ) → j < net.vertices + 1 → IsNarrow (number_at row j) (entry net k i (suc j))

-- nothing was too wide up to step k
abbrev pub IsNarrowTo : Net → ℕ → Type 0
IsNarrowTo net k = (p : Place) → IsPlaceOf net p → p.step ≤ k → ¬ IsWideAt net p

-- table k, and nothing was too wide up to it
pub record IsTable (net : Net) (k : ℕ) (rows : List (List Fraction)) : Type 0 where
  pub many : suc (length rows) ≡ net.vertices
  pub each : (i : ℕ) → i < length rows → IsRowOf net k (suc i) (row_at rows i)
  pub narrow : IsNarrowTo net k

-- The table in the middle of step k + 1: row k, counted from 0, and those before row m are done.
pub record IsMidway (net : Net) (k m : ℕ) (rows : List (List Fraction)) : Type 0 where
  pub many : suc (length rows) ≡ net.vertices
  pub done : (i : ℕ) → i < length rows → (i < m) ⊎ (i ≡ k) → IsRowOf net (suc k) (suc i) (row_at rows i)
  pub left : (i : ℕ) → i < length rows → m ≤ i → i ≢ k → IsRowOf net k (suc i) (row_at rows i)
  pub narrow : IsNarrowTo net k
  pub narrow_here : (i j : ℕ) → i < length rows → (i < m) ⊎ (i ≡ k) → j < net.vertices + 1 → ¬ IsWideAt net (place_at (suc k) (suc i) (suc j))

-- why a net is not placed
abbrev pub IsPlaceFault : Net → PlaceFault → Type 0
IsPlaceFault net (TooManyVertices count) = (96 < net.vertices) × (count ≡ net.vertices)
IsPlaceFault net (TooWide step row column) = (net.vertices ≤ 96) × IsFirstWide net (place_at step row column)
IsPlaceFault net Memory = Unit {0}
