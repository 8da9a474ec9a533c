use Rattle.std.proofs.Common.{◌≤◌, ◌+◌, ◌^◌, pos, nat_abs, sym, subst, ap, ◌∙◌, ◌+ℤ◌, arith}
use Rattle.dd_draw.specs.Spots.{floor_of, spot_of}
use Rattle.dd_draw.proofs.FirstSums.{share_read}
use Rattle.dd_draw.proofs.Spots.{one_read, spot_fits, spot_read, thousand_small, spot_small}
use Rattle.dd_draw.proofs.spot.Spot.of.Goals as goal

pub returns-clause-same : goal.returns-clause-same
returns-clause-same c =
    let p = c.point.inside in
    let x = spot_read c.floor_of.result c.floor_of-2.result c.floor_of.ensures.small c.floor_of-2.ensures.small
    ∙ (λ i. c.floor_of.ensures.same i +ℤ c.floor_of-2.ensures.same i) ∙ ap (λ k. floor_of (pos 1000) p.x +ℤ floor_of k p.y) (share_read c.second_side-lean.result.0 c.second_side-lean.ensures.small_lean ∙ c.second_side-lean.ensures.lean) in
    let y = one_read c.floor_of-3.result c.floor_of-3.ensures.small ∙ c.floor_of-3.ensures.same ∙ ap (λ k. floor_of k p.y) (share_read c.second_side-lean.result.1 c.second_side-lean.ensures.small_rise ∙ c.second_side-lean.ensures.rise) in
    ◌∙◌ {b = spot_of c.args.frame (record { x = p.x; y = p.y })} (λ i. record { x = x i; y = y i }) (ap (spot_of c.args.frame) c.point.view_is)

pub overflow_add-result : goal.overflow_add-result
overflow_add-result c = spot_fits c.floor_of.result c.floor_of-2.result c.floor_of.ensures.small c.floor_of-2.ensures.small

pub floor_of-requires-clause-times : goal.floor_of-requires-clause-times
floor_of-requires-clause-times c = omega arith

pub returns-clause-x : goal.returns-clause-x
returns-clause-x c =
    let a = c.floor_of.result in
    let b = c.floor_of-2.result in
    let small = subst (λ z. nat_abs z ≤ 2 ^ 73) (sym c.floor_of.ensures.same) (thousand_small c.point.inside.x c.point.invariant.x) in
    subst (λ z. nat_abs z ≤ 2 ^ 125 + 2 ^ 73) (sym (spot_read a b c.floor_of.ensures.small c.floor_of-2.ensures.small)) (spot_small a b small c.floor_of-2.ensures.small)

pub returns-clause-y : goal.returns-clause-y
returns-clause-y c =
    let small = c.floor_of-3.ensures.small in
    subst (λ z. nat_abs z ≤ 2 ^ 125 + 2 ^ 73) (sym (one_read c.floor_of-3.result small)) (omega (arith, small))
