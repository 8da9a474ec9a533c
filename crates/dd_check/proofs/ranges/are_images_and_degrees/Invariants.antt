use Rattle.dd_check.proofs.RangeLemmas.{HasGoodBelow}
use Rattle.dd_check.proofs.ranges.are_images_and_degrees.Given as goal

abbrev pub invariant-loop-place : goal.invariant-loop-place
invariant-loop-place l = HasGoodBelow l.size l.numbers l.place
