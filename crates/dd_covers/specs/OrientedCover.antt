-- The oriented cover of a symbol.
use Rattle.std.specs.Prelude.{◌≡◌, ◌⊎◌, ℕ, List}
use Rattle.dd_model.specs.Symbol.{Symbol}
use Rattle.dd_model.specs.Code.{chambers}
use Rattle.dd_model.specs.declared.index.Index.{Index}
use Rattle.dd_cells.specs.Orientation.{IsOriented}
use Rattle.dd_covers.specs.Sheets.{sheets_of, below_sheets}

-- every involution leads from each chamber to the next sheet
abbrev pub next_sheet : Index → ℕ → ℕ
next_sheet i d = 1

-- two sheets, which every involution exchanges
abbrev pub two_sheets : Symbol → Symbol
two_sheets s = sheets_of s 2 next_sheet

-- an oriented symbol covers itself
pub record CoversItself (s t : Symbol) (below : List ℕ) : Type 0 where
  pub oriented : IsOriented s
  pub same : t ≡ s
  pub is_below : below ≡ chambers s

-- any other symbol is covered by its two sheets
pub record IsCoveredTwice (s t : Symbol) (below : List ℕ) : Type 0 where
  pub not_oriented : ¬ IsOriented s
  pub sheets : t ≡ two_sheets s
  pub is_below : below ≡ below_sheets s 2

-- the symbol itself where it is oriented, and else its two sheets
abbrev pub IsOrientedCover : Symbol → Symbol → List ℕ → Type 0
IsOrientedCover s t below = CoversItself s t below ⊎ IsCoveredTwice s t below
