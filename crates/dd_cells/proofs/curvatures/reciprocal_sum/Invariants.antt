use Rattle.dd_cells.proofs.ReciprocalSums.{IsPartialSum}
use Rattle.dd_cells.proofs.curvatures.reciprocal_sum.Given as goal

abbrev pub invariant-loop-k : goal.invariant-loop-k
invariant-loop-k l = IsPartialSum l.s l.pair 2329089562800 l.k l.sum
