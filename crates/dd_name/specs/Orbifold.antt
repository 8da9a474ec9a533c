-- The orbifold of a symbol, in Conway's data.
use Rattle.std.specs.Prelude.{List, length}
use Rattle.dd_model.specs.Symbol.{Symbol}
use Rattle.dd_name.specs.declared.joints.Joint.{Joint}
use Rattle.dd_name.specs.declared.orbifolds.Orbifold.{Orbifold}
use Rattle.dd_name.specs.Rounds.{AreRounds}
use Rattle.dd_name.specs.Cones.{AreCones}
use Rattle.dd_name.specs.Boundaries.{AreBoundaries}
use Rattle.dd_name.specs.Surface.{AreHandlesAndCrosscaps}

-- the cones, the corners of the boundaries, and the handles and crosscaps of a symbol
pub record IsOrbifold (s : Symbol) (o : Orbifold) : Type 0 where
  pub cones : AreCones s o.cones
  pub rounds : List (List Joint)
  pub are_rounds : AreRounds s rounds
  pub boundaries : AreBoundaries rounds o.boundaries
  pub surface : AreHandlesAndCrosscaps s (length rounds) o.handles o.crosscaps
