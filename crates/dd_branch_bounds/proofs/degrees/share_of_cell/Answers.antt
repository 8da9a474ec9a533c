use Rattle.std.proofs.Common.{◌-◌, ◌≡◌, ◌*◌, ◌≤◌, ◌+◌, ◌/◌, sym, ap, ◌∙◌, subst, arith}
use Rattle.std.proofs.Math.Nat.{mul-le-mul_right}
use Rattle.dd_branch_bounds.specs.Units.{share_unit}
use Rattle.dd_branch_bounds.proofs.Bounds.{rounded}
use Rattle.dd_branch_bounds.proofs.degrees.share_of_cell.Goals as goal

pub returns-then-allows_cell-clause-share : goal.returns-then-allows_cell-clause-share
returns-then-allows_cell-clause-share c v is allowed =
    let r = c.args.turns in
    let b = c.loop-branching.branching in
    let least = c.loop-branching.invariant v is allowed in
    let from : b * c.from.result ≡ b * r = ap (λ n. b * n) c.from.ensures in
    let some : 1 ≤ b * r = let one = c.loop-branching.auto.branching in let pos = c.requires in grind (arith, one, pos) in
    let below : b * r ≤ v * r = mul-le-mul_right r least in
    subst (λ n. share_unit ≤ n * (v * r)) (sym (c.share_of.ensures.share ∙ ap (λ n. (share_unit - 1) / n + 1) from))
    (rounded (share_unit - 1) (b * r) (v * r) some below)
