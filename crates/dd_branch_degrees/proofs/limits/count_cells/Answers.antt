use Rattle.std.proofs.Common.{◌≡◌, ◌+◌, suc, ap, ◌∙◌, arith}
use Rattle.dd_branch_degrees.specs.Budget.{cells_to}
use Rattle.dd_branch_degrees.proofs.limits.count_cells.Goals as goal

pub loop-k-preserved : goal.loop-k-preserved
loop-k-preserved c =
    let k = c.loop-k.k in
    let next : k + 1 ≡ suc k = omega arith in
    let sum = ap (cells_to c.args.places.now) next in
    let here = c.from-cells.ensures ∙ c.min.ensures in
    let told = c.loop-k.invariant.told in
    let few = c.loop-k.invariant.few in
    record {
      told = omega (arith, sum, here, told);
      few = omega (arith, here, few);
    }
