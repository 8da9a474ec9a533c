-- When a table is lawful.
use Rattle.std.specs.Prelude.{◌≡◌, ◌≤◌, length}
use Rattle.dd_model.specs.declared.index.Index.{Index}
use Rattle.dd_model.specs.declared.pair.Pair.TheVariants.{Tile, Vertex}
use Rattle.dd_template.specs.Table.{Table, moves}
use Rattle.dd_template.specs.Moves.{AreUndone, Commute}
use Rattle.dd_template.specs.Connecting.{AreJoined, AreUsed}
use Rattle.dd_template.specs.Entries.{AreConstant, AllFit}
use Rattle.dd_template.specs.Shares.{KeepsCurvature}

-- the moves of the parts: they lead back, s0 and s2 commute, all parts are joined, and all involutions are used
pub record HaveMoves (t : Table) : Type 0 where
  pub undone : AreUndone t
  pub commuting : Commute t
  pub joined : AreJoined t
  pub used : AreUsed t

-- the entries of the parts: they are equal along the moves, fit them, and keep the curvature
pub record HaveEntries (t : Table) : Type 0 where
  pub constant_face : AreConstant t Tile
  pub constant_degree : AreConstant t Vertex
  pub face : AllFit t Tile
  pub degree : AllFit t Vertex
  pub curvature : KeepsCurvature t

-- 1 to 64 parts, and as many moves and entries
pub record HaveParts (t : Table) : Type 0 where
  pub some : 1 ≤ t.parts
  pub few : t.parts ≤ 64
  pub moves : (i : Index) → length (moves t i) ≡ t.parts
  pub face : length t.face ≡ t.parts
  pub degree : length t.degree ≡ t.parts

-- a lawful table
pub record IsLawful (t : Table) : Type 0 where
  pub lists : HaveParts t
  pub moves : HaveMoves t
  pub entries : HaveEntries t
