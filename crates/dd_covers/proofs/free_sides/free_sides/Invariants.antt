use Rattle.std.specs.Prelude.{◌+◌}
use Rattle.dd_model.specs.declared.index.Index.TheVariants.{Zero}
use Rattle.dd_covers.specs.Visits.{rank}
use Rattle.dd_covers.specs.SideLists.{AreFreeSidesTo}
use Rattle.dd_covers.proofs.free_sides.free_sides.Given as goal

abbrev pub invariant-loop-k : goal.invariant-loop-k
invariant-loop-k l = AreFreeSidesTo l.symbol l.numbers (rank Zero (l.k + 1)) l.sides.items
