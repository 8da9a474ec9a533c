use Rattle.std.proofs.Common.{ℕ, ◌*◌, ◌/◌, sym, subst}
use Rattle.dd_model.specs.Cell.{IsBranching}
use Rattle.dd_symbol.specs.Cells.{IsKindOf}
use Rattle.dd_cells.specs.Curvature.{IsReciprocalSum}
use Rattle.dd_cells.proofs.MemberLemmas.{value_positive}
use Rattle.dd_cells.proofs.ReciprocalSums.{divides_common, chain_sum, cycle_sum}
use Rattle.dd_cells.proofs.curvatures.cell_share.Goals as goal
use Rattle.dd_cells.proofs.curvatures.cell_share.Goals.{in-Chain, in-Cycle}

pub returns-clause-sum : goal.returns-clause-sum
returns-clause-sum c members are =
    let s = c.args.s.now in
    let p = c.args.pair in
    let d = c.args.chamber in
    let common : ℕ = 2329089562800 in
    let v = c.branching.result in
    let same = c.symbol-symbol.ensures.same in
    let small = c.symbol-symbol.ensures.symbol in
    let is = small.symbol in
    let branching = subst (λ t. IsBranching t p d v) same c.branching.ensures in
    let kind = subst (λ t. IsKindOf t p d c.cell.result.kind) same c.cell.ensures.kind in
    let divides = divides_common v (value_positive s is p d v c.requires branching) (small.branching p d v c.requires branching) in
    let sum = subst (λ n. IsReciprocalSum s p members common (c.match-cell.sides * (common / n))) (sym c.from.ensures) in
    elim c.match-cell.branch [
      | in-Chain w ↦
          sum (subst (λ n. IsReciprocalSum s p members common (n * (common / v))) (sym w.sides-is)
          (chain_sum s is p d v common members c.requires branching (subst (IsKindOf s p d) w.in-Chain.is kind) are divides))
      | in-Cycle w ↦
          sum (subst (λ n. IsReciprocalSum s p members common (n * (common / v))) (sym w.sides-is)
          (cycle_sum s is p d v common members c.requires branching (subst (IsKindOf s p d) w.in-Cycle.is kind) are divides))
    ]
