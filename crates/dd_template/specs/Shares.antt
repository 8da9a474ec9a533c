-- When a table keeps the curvature of every symbol.
use Rattle.std.specs.Prelude.{◌≡◌, ℕ, ◌+◌, ◌-◌, ◌*◌, ◌/◌}
use Rattle.std.specs.List.{sum_by}
use Rattle.dd_template.specs.declared.tables.Degree.{Degree}
use Rattle.dd_template.specs.declared.tables.Degree.TheVariants.{OfTile, OfVertex, Fixed}
use Rattle.dd_template.specs.declared.tables.MultipleOf.{MultipleOf}
use Rattle.dd_template.specs.declared.tables.MultipleOf.TheVariants as kind
use Rattle.dd_template.specs.Table.{Table}

-- The least common multiple of 1 to 64. The fractions 1/c of a lawful table are counted in such parts of 1.
abbrev pub curvature_unit : ℕ
curvature_unit = 1182266884102822267511361600

-- 1/c for an entry of one kind, and 0 for the others
abbrev pub share : MultipleOf → Degree → ℕ
share kind.Tile (OfTile c) = curvature_unit / c
share kind.Tile (OfVertex c) = 0
share kind.Tile (Fixed m) = 0
share kind.Vertex (OfTile c) = 0
share kind.Vertex (OfVertex c) = curvature_unit / c
share kind.Vertex (Fixed m) = 0
share kind.Neither (OfTile c) = 0
share kind.Neither (OfVertex c) = 0
share kind.Neither (Fixed m) = curvature_unit / m

-- Over all entries the numbers 1/c add to 1 for tiles and for vertices, and 1/m to half of the parts less a half.
pub record KeepsCurvature (t : Table) : Type 0 where
  pub tiles : sum_by (share kind.Tile) t.face + sum_by (share kind.Tile) t.degree ≡ curvature_unit
  pub vertices : sum_by (share kind.Vertex) t.face + sum_by (share kind.Vertex) t.degree ≡ curvature_unit
  pub fixed : 2 * (sum_by (share kind.Neither) t.face + sum_by (share kind.Neither) t.degree) ≡ (t.parts - 1) * curvature_unit
