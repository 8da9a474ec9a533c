use Rattle.std.proofs.Common.{vec_len}
use Rattle.dd_canon.specs.Standing.{IsReady}
use Rattle.dd_canon.proofs.visits.NumberedChambers.begin.Given as goal

abbrev pub invariant-loop-chamber : goal.invariant-loop-chamber
invariant-loop-chamber l = IsReady l.s l.self

abbrev pub decreases-loop-chamber : goal.decreases-loop-chamber
decreases-loop-chamber l = vec_len l.self.order
