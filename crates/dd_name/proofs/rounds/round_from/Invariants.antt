use Rattle.std.proofs.Common.{Bool, cond}
use Rattle.std.specs.Prelude.{sum_by}
use Rattle.dd_name.proofs.TourLemmas.{IsTour}
use Rattle.dd_name.proofs.rounds.round_from.Given as goal

abbrev pub invariant-loop-marks : goal.invariant-loop-marks
invariant-loop-marks l = IsTour l.symbol l.fn.start l.initial.marks l.marks l.joints.items l.current

-- the flags that are not marked yet
abbrev pub decreases-loop-marks : goal.decreases-loop-marks
decreases-loop-marks l = sum_by (λ (b : Bool). cond b 0 1) l.marks
