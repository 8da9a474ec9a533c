use Rattle.std.proofs.Common.{◌≡◌, ℕ, ◌+◌, sym, ap, subst, arith}
use Rattle.dd_model.specs.Cell.{IsLeastOfCell}
use Rattle.dd_cells.proofs.ReciprocalSums.{IsPartialSum, no_sum, sum_more, sum_same, whole_sum}
use Rattle.dd_cells.proofs.curvatures.reciprocal_sum.Goals as goal
use Rattle.dd_cells.proofs.curvatures.reciprocal_sum.Goals.{then-is_least_of_cell, else-is_least_of_cell}

pub loop-k-init : goal.loop-k-init
loop-k-init c = no_sum c.args.s.now c.args.pair 2329089562800

pub loop-k-preserved : goal.loop-k-preserved
loop-k-preserved c =
    let s = c.args.s.now in
    let p = c.args.pair in
    let k = c.loop-k.k in
    let common : ℕ = 2329089562800 in
    let inv = c.symbol-symbol.ensures.symbol.symbol.table.involutions in
    elim c.if-is_least_of_cell.branch [
      | then-is_least_of_cell w ↦
          subst (IsPartialSum s p common (k + 1)) (sym w.sum-is)
          (sum_more s inv p common k c.loop-k.sum w.cell_share-sum.result c.loop-k.invariant (subst (λ t. IsLeastOfCell t p (k + 1)) c.symbol-symbol.ensures.same (c.is_least_of_cell.ensures.0 w.if-is_least_of_cell.true))
          w.cell_share-sum.ensures.sum w.cell_share-sum.ensures.small)
      | else-is_least_of_cell w ↦
          subst (IsPartialSum s p common (k + 1)) (sym w.sum-is)
          (sum_same s p common k c.loop-k.sum c.loop-k.invariant
          (λ least. let yes = c.is_least_of_cell.ensures.1 (subst (λ t. IsLeastOfCell t p (k + 1)) (sym c.symbol-symbol.ensures.same) least) in let no = w.if-is_least_of_cell.false in (cc)))
    ]

pub returns-clause-sum : goal.returns-clause-sum
returns-clause-sum c =
    let s = c.args.s.now in
    let p = c.args.pair in
    let same = ap (λ t. t.size) c.symbol-symbol.ensures.same in
    let whole : c.loop-k.k ≡ s.size = omega arith in
    whole_sum s c.symbol-symbol.ensures.symbol.symbol.table.involutions p 2329089562800 c.loop-k.sum
    (subst (λ k. IsPartialSum s p 2329089562800 k c.loop-k.sum) whole c.loop-k.invariant)
