use Rattle.std.specs.Prelude.{length}
use Rattle.dd_covers.proofs.SettleLemmas.{IsUnderWay}
use Rattle.dd_covers.proofs.torus_shifts.torus_shifts.Given as goal

abbrev pub invariant-loop-join : goal.invariant-loop-join
invariant-loop-join l = IsUnderWay l.fn.base l.k l.white l.shifts l.wants.items l.joins.items

abbrev pub decreases-loop-join : goal.decreases-loop-join
decreases-loop-join l = length l.joins.items
