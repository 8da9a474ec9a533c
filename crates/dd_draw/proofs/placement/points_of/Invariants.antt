use Rattle.dd_draw.specs.Points.{ArePointsTo}
use Rattle.dd_draw.specs.Tables.{lists}
use Rattle.dd_draw.proofs.placement.points_of.Given as goal

abbrev pub invariant-loop-place : goal.invariant-loop-place
invariant-loop-place l = ArePointsTo l.fn.small.net.now.vertices l.place (lists l.fn.rows) l.points.items
