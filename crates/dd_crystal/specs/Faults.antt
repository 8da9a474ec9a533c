-- What a fault of the number of sheets says.
use Rattle.dd_model.specs.Symbol.{Symbol}
use Rattle.dd_model.specs.Flat.{Flat}
use Rattle.dd_cells.specs.Curvature.{IsCurvature}
use Rattle.dd_crystal.specs.declared.sheets_faults.SheetsFault.{SheetsFault}
use Rattle.dd_crystal.specs.declared.sheets_faults.SheetsFault.TheVariants.{NotFlat, Memory}

-- The symbol is not flat, and has this curvature. Being out of memory says nothing of the symbol.
abbrev pub IsSheetsFault : Symbol → SheetsFault → Type 0
IsSheetsFault s (NotFlat x) = (¬ Flat s) × IsCurvature s x
IsSheetsFault s Memory = Unit {0}
