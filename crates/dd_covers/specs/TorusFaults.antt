-- What a fault of the torus cover says.
use Rattle.dd_model.specs.Symbol.{Symbol}
use Rattle.dd_model.specs.Flat.{Flat}
use Rattle.dd_cells.specs.Curvature.{IsCurvature}
use Rattle.dd_covers.specs.declared.torus_faults.TorusFault.{TorusFault}
use Rattle.dd_covers.specs.declared.torus_faults.TorusFault.TheVariants.{NotFlat, Memory}

-- The symbol is not flat, and has this curvature. Want of memory says nothing.
abbrev pub IsTorusFault : Symbol → TorusFault → Type 0
IsTorusFault s (NotFlat x) = (¬ Flat s) × IsCurvature s x
IsTorusFault s Memory = Unit {0}
