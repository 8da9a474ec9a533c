-- The first place at which the elimination has a number that is too wide.
use Rattle.std.specs.Prelude.{◌≡◌, ◌≢◌, ◌⊎◌, ℕ, ◌+◌, ◌<◌, ◌≤◌}
use Rattle.dd_lattice.specs.declared.net.Net.{Net}
use Rattle.dd_draw.specs.Elimination.{entry, taken}
use Rattle.dd_draw.specs.Limit.{IsWide}

-- a place of the tables
pub record Place : Type 0 where
  pub step : ℕ
  pub row : ℕ
  pub column : ℕ

-- a place of the tables of a net
pub record IsPlaceOf (net : Net) (p : Place) : Type 0 where
  pub step : p.step < net.vertices
  pub some_row : 1 ≤ p.row
  pub row : p.row < net.vertices
  pub some_column : 1 ≤ p.column
  pub column : p.column ≤ net.vertices + 1

-- The entry there is too wide, or the product that is taken away there.
abbrev pub IsWideAt : Net → Place → Type 0
IsWideAt net p = IsWide (entry net p.step p.row p.column) ⊎ ((1 ≤ p.step) × (p.row ≢ p.step) × IsWide (taken net p.step p.row p.column))

-- at step k row k comes first, and then the other rows ascending
abbrev pub IsRowBefore : ℕ → ℕ → ℕ → Type 0
IsRowBefore k i j = ((i ≡ k) × (j ≢ k)) ⊎ ((i ≢ k) × (j ≢ k) × (i < j))

-- by step, then by row, then by column
abbrev pub IsBefore : Place → Place → Type 0
IsBefore p q = (p.step < q.step) ⊎ ((p.step ≡ q.step) × (IsRowBefore p.step p.row q.row ⊎ ((p.row ≡ q.row) × (p.column < q.column))))

-- the first place with a number that is too wide
pub record IsFirstWide (net : Net) (p : Place) : Type 0 where
  pub place : IsPlaceOf net p
  pub wide : IsWideAt net p
  pub first : (q : Place) → IsPlaceOf net q → IsBefore q p → ¬ IsWideAt net q
