use Rattle.dd_name.proofs.RotationLemmas.{IsBestBelow}
use Rattle.dd_name.proofs.rotations.greatest_rotation.Given as goal

abbrev pub invariant-loop-k : goal.invariant-loop-k
invariant-loop-k l = IsBestBelow l.doubled l.length l.k l.best
