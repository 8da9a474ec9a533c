-- Rows of fractions that are made number by number, up to the first that is too wide.
use Rattle.std.specs.Prelude.{◌≡◌, ℕ, ◌+◌, ◌<◌, pos, List, length, slice_index_or}
use Rattle.dd_cells.specs.declared.fractions.Fraction.{Fraction}
use Rattle.dd_draw.specs.Elimination.{Ratio, quotient, product, difference}
use Rattle.dd_draw.specs.Limit.{IsNarrow, ratio_of}
use Rattle.dd_draw.specs.declared.place_fault.PlaceFault.{PlaceFault}
use Rattle.dd_draw.specs.declared.place_fault.PlaceFault.TheVariants.{TooManyVertices, TooWide, Memory}

-- the number at a place of a row, places being counted from 0
abbrev pub number_at : List Fraction → ℕ → Fraction
number_at row j = slice_index_or row j (record { num = pos 0; den = pos 0 })

-- The first n numbers of a row: they are the ratios, and at none of the places anything is too wide.
pub record AreMade (r : ℕ → Ratio) (Wide : ℕ → Type 0) (n : ℕ) (row : List Fraction) : Type 0 where
  pub many : length row ≡ n
  pub each : (j : ℕ) → j < n → IsNarrow (number_at row j) (r j)
  pub none_wide : (j : ℕ) → j < n → ¬ Wide j

-- Column c is the first in which something is too wide; columns are counted from 1.
pub record IsFirstColumn (n : ℕ) (Wide : ℕ → Type 0) (c : ℕ) : Type 0 where
  pub place : ℕ
  pub inside : place < n
  pub column : c ≡ place + 1
  pub wide : Wide place
  pub first : (j : ℕ) → j < place → ¬ Wide j

-- why a row of n numbers was not made
abbrev pub IsRowFault : ℕ → ℕ → ℕ → (ℕ → Type 0) → PlaceFault → Type 0
IsRowFault step row n Wide (TooManyVertices count) = ⊥
IsRowFault step row n Wide (TooWide s r c) = (s ≡ step) × (r ≡ row) × IsFirstColumn n Wide c
IsRowFault step row n Wide Memory = Unit {0}

-- the numbers of a row over another number
abbrev pub quotients : List Fraction → Fraction → ℕ → Ratio
quotients row pivot j = quotient (ratio_of (number_at row j)) (ratio_of pivot)

-- a factor times the numbers of a row
abbrev pub products : Fraction → List Fraction → ℕ → Ratio
products factor top j = product (ratio_of factor) (ratio_of (number_at top j))

-- the numbers of a row less these
abbrev pub remainders : List Fraction → Fraction → List Fraction → ℕ → Ratio
remainders row factor top j = difference (ratio_of (number_at row j)) (products factor top j)
