-- Symbols that share their involutions.
use Rattle.std.specs.Prelude.{◌≡◌, ◌⊎◌, ℕ, ◌+◌, ◌-◌, ◌*◌, ◌<◌, ◌≤◌, Bool, List, [], ◌∷◌, ◌++◌, map, take, drop, length, get_or, leb}
use Rattle.std.specs.List.{All, count_by, range_with_len}
use Rattle.std.specs.List.Sorted.{IsNonDecreasingBy}
use Rattle.dd_model.specs.Symbol.{Symbol}
use Rattle.dd_model.specs.Connected.{Connected}
use Rattle.dd_model.specs.Involutions.{HaveSameInvolutions}
use Rattle.dd_model.specs.Small.{IsSmallSymbol}
use Rattle.dd_symbol.specs.Images.{of_rows, with_degrees}
use Rattle.dd_member_lists.specs.declared.series.Series.{Series}

-- a symbol with other degrees, those of the tiles coming first
abbrev pub with_told : Symbol → List ℕ → Symbol
with_told s degrees = with_degrees s (take s.size degrees) (drop s.size degrees)

-- a table with the degrees that begin at a place of some bytes: as many as it has chambers for the tiles, and then for the vertices
abbrev pub with_bytes : List ℕ → ℕ → Symbol → Symbol
with_bytes bytes at table = with_degrees table (take table.size (drop at bytes)) (take table.size (drop (at + table.size) bytes))

-- so many symbols of a table, with degrees that follow each other
abbrev pub alike : Symbol → List ℕ → ℕ → List Symbol
alike table bytes count = map (λ k. with_bytes bytes (2 * table.size * k) table) (range_with_len 0 count)

-- the degrees of as many symbols are there
pub record AreAlike (table : Symbol) (bytes : List ℕ) (count : ℕ) : Type 0 where
  pub within : 2 * table.size * count ≤ length bytes
  pub small : All IsSmallSymbol (alike table bytes count)
  pub connected : All Connected (alike table bytes count)

-- what is read where there is no series
abbrev pub no_series : Series
no_series = record { table = of_rows 0 []; first = 0; degrees = 0 }

-- the series of a number
abbrev pub series_at : List Series → ℕ → Series
series_at series k = get_or series k no_series

-- whether a series begins at a symbol or before it
abbrev pub begins_by : ℕ → Series → Bool
begins_by k one = leb one.first k

-- the series of a symbol: the last one that begins at it or before it
abbrev pub series_of : List Series → ℕ → Series
series_of series k = series_at series (count_by (begins_by k) series - 1)

-- where the degrees of a symbol of a series begin
abbrev pub degrees_in : Series → ℕ → ℕ
degrees_in one k = one.degrees + 2 * one.table.size * (k - one.first)

-- the symbol of a place
abbrev pub symbol_of : List Series → List ℕ → ℕ → Symbol
symbol_of series bytes k = with_bytes bytes (degrees_in (series_of series k) k) (series_of series k).table

-- the first so many symbols
abbrev pub listed : List Series → List ℕ → ℕ → List Symbol
listed series bytes count = map (symbol_of series bytes) (range_with_len 0 count)

-- a place of a symbol: its series and its degrees are there
pub record IsPlace (series : List Series) (bytes : List ℕ) (k : ℕ) : Type 0 where
  pub some : 1 ≤ count_by (begins_by k) series
  pub degrees : degrees_in (series_of series k) k + 2 * (series_of series k).table.size ≤ length bytes
  pub small : IsSmallSymbol (symbol_of series bytes k)
  pub connected : Connected (symbol_of series bytes k)

-- So many symbols, of which the series begin in turn, and after the degrees of the last one there are none.
pub record AreListed (series : List Series) (bytes : List ℕ) (count : ℕ) : Type 0 where
  pub ascending : IsNonDecreasingBy (λ one. one.first) series
  pub begun : All (λ one. one.first < count) series
  pub ended : 1 ≤ length series → degrees_in (series_at series (length series - 1)) count ≡ length bytes
  pub few : count ≤ length bytes
  pub places : (k : ℕ) → k < count → IsPlace series bytes k

-- the last series has the involutions of a symbol
pub record IsLast (s : Symbol) (series : List Series) : Type 0 where
  pub some : 1 ≤ length series
  pub same : HaveSameInvolutions s (series_at series (length series - 1)).table

-- The last series has the involutions of a symbol: it was there, or it begins after so many symbols and bytes.
abbrev pub HasBegun : Symbol → ℕ → ℕ → List Series → List Series → Type 0
HasBegun s first degrees old new =
    ((new ≡ old) × IsLast s old) ⊎ ((new ≡ old ++ record { table = s; first = first; degrees = degrees } ∷ []) × (¬ IsLast s old))
