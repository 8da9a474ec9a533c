use Rattle.dd_cells.proofs.CurvatureLemmas.{sum_of_both}
use Rattle.dd_cells.proofs.curvatures.gain.Goals as goal

pub returns-clause-sum : goal.returns-clause-sum
returns-clause-sum c =
    sum_of_both c.args.s.now c.reciprocal_sum.ensures.table 2329089562800 c.reciprocal_sum.result c.reciprocal_sum-2.result
    c.reciprocal_sum.ensures.sum c.reciprocal_sum-2.ensures.sum
