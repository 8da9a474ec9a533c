-- What the making of a symbol tells.
use Rattle.std.specs.Prelude.{◌≡◌, ◌*◌, ◌<◌, ◌≤◌}
use Rattle.dd_model.specs.Symbol.{Symbol}
use Rattle.dd_template.specs.Table.{Table}
use Rattle.dd_template.specs.declared.tables.Degree.{Degree}
use Rattle.dd_template.specs.declared.tables.Degree.TheVariants.{OfTile, OfVertex, Fixed}
use Rattle.dd_template.specs.declared.application.ApplyFault.{ApplyFault}
use Rattle.dd_template.specs.declared.application.ApplyFault.TheVariants.{TooManyChambers, Memory}

-- A fault: the symbol of n chambers has too many for the parts of the table, or it has not and memory was wanting.
abbrev pub IsFaultOf : Table → Symbol → ApplyFault → Type 0
IsFaultOf t s (TooManyChambers n) = (n ≡ s.size) × (1024 < s.size * t.parts)
IsFaultOf t s Memory = s.size * t.parts ≤ 1024

-- the degree of a chamber is taken at most 64 times, or not at all
abbrev pub HasSmallFactor : Degree → Type 0
HasSmallFactor (OfTile c) = c ≤ 64
HasSmallFactor (OfVertex c) = c ≤ 64
HasSmallFactor (Fixed m) = Unit {0}
