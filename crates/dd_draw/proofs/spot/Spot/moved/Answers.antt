use Rattle.std.proofs.Common.{refl, pos, arith, ◌≤◌, ◌+◌, ◌^◌, nat_abs, sym, subst}
use Rattle.dd_draw.specs.Spots.{lean, rise}
use Rattle.dd_draw.proofs.Spots.{lean_small, shift_small, shift_read, moved_read, moved_small, moved_fits, leaning_read, leaning_small, along_fits, times_fits, rise_fits}
use Rattle.dd_draw.proofs.spot.Spot.moved.Goals as goal

pub overflow_mul-result : goal.overflow_mul-result
overflow_mul-result c =
    times_fits (pos 1000) c.args.x (pos 1000) c.from-x.result (omega arith) (shift_small c.args.x c.ranges.x) refl (shift_read c.args.x c.from-x.result c.ranges.x c.from-x.ensures)

pub overflow_mul-result-2 : goal.overflow_mul-result-2
overflow_mul-result-2 c =
    times_fits (lean c.args.frame) c.args.y c.second_side-lean.result.0 c.from-y.result (lean_small c.second_side-lean.result.0 (lean c.args.frame) c.second_side-lean.ensures.lean c.second_side-lean.ensures.small_lean)
    (shift_small c.args.y c.ranges.y) c.second_side-lean.ensures.lean (shift_read c.args.y c.from-y.result c.ranges.y c.from-y.ensures)

pub overflow_add-result : goal.overflow_add-result
overflow_add-result c =
    along_fits (lean c.args.frame) c.args.x c.args.y c.from-x.result c.second_side-lean.result.0 c.from-y.result (lean_small c.second_side-lean.result.0 (lean c.args.frame) c.second_side-lean.ensures.lean c.second_side-lean.ensures.small_lean) (shift_small c.args.x c.ranges.x) (shift_small c.args.y c.ranges.y)
    (shift_read c.args.x c.from-x.result c.ranges.x c.from-x.ensures) c.second_side-lean.ensures.lean (shift_read c.args.y c.from-y.result c.ranges.y c.from-y.ensures)

pub overflow_add-result-2 : goal.overflow_add-result-2
overflow_add-result-2 c =
    moved_fits c.args.self.x (lean c.args.frame) c.args.x c.args.y c.from-x.result c.second_side-lean.result.0 c.from-y.result c.requires.x (lean_small c.second_side-lean.result.0 (lean c.args.frame) c.second_side-lean.ensures.lean c.second_side-lean.ensures.small_lean) (shift_small c.args.x c.ranges.x) (shift_small c.args.y c.ranges.y)
    (shift_read c.args.x c.from-x.result c.ranges.x c.from-x.ensures) c.second_side-lean.ensures.lean (shift_read c.args.y c.from-y.result c.ranges.y c.from-y.ensures)

pub overflow_mul-result-3 : goal.overflow_mul-result-3
overflow_mul-result-3 c =
    times_fits (rise c.args.frame) c.args.y c.second_side-lean.result.1 c.from-y.result (lean_small c.second_side-lean.result.1 (rise c.args.frame) c.second_side-lean.ensures.rise c.second_side-lean.ensures.small_rise) (shift_small c.args.y c.ranges.y) c.second_side-lean.ensures.rise (shift_read c.args.y c.from-y.result c.ranges.y c.from-y.ensures)

pub overflow_add-result-3 : goal.overflow_add-result-3
overflow_add-result-3 c =
    rise_fits c.args.self.y (rise c.args.frame) c.args.y c.second_side-lean.result.1 c.from-y.result c.requires.y (lean_small c.second_side-lean.result.1 (rise c.args.frame) c.second_side-lean.ensures.rise c.second_side-lean.ensures.small_rise) (shift_small c.args.y c.ranges.y) c.second_side-lean.ensures.rise (shift_read c.args.y c.from-y.result c.ranges.y c.from-y.ensures)

pub returns-clause-same : goal.returns-clause-same
returns-clause-same c =
    let s = c.args.self in
    let px = shift_small c.args.x c.ranges.x in
    let py = shift_small c.args.y c.ranges.y in
    λ i. record {
      x = leaning_read s.x (lean c.args.frame) c.args.x c.args.y c.from-x.result c.second_side-lean.result.0 c.from-y.result c.requires.x (lean_small c.second_side-lean.result.0 (lean c.args.frame) c.second_side-lean.ensures.lean c.second_side-lean.ensures.small_lean) px py (shift_read c.args.x c.from-x.result c.ranges.x c.from-x.ensures) c.second_side-lean.ensures.lean (shift_read c.args.y c.from-y.result c.ranges.y c.from-y.ensures) i;
      y = moved_read s.y (rise c.args.frame) c.args.y c.second_side-lean.result.1 c.from-y.result c.requires.y (lean_small c.second_side-lean.result.1 (rise c.args.frame) c.second_side-lean.ensures.rise c.second_side-lean.ensures.small_rise) py c.second_side-lean.ensures.rise (shift_read c.args.y c.from-y.result c.ranges.y c.from-y.ensures) i;
    }

pub returns-clause-small : goal.returns-clause-small
returns-clause-small c =
    let s = c.args.self in
    let px = shift_small c.args.x c.ranges.x in
    let py = shift_small c.args.y c.ranges.y in
    record {
      x = subst (λ z. nat_abs z ≤ 2 ^ 126 + 2 ^ 125 + 2 ^ 75)
          (sym (leaning_read s.x (lean c.args.frame) c.args.x c.args.y c.from-x.result c.second_side-lean.result.0 c.from-y.result c.requires.x (lean_small c.second_side-lean.result.0 (lean c.args.frame) c.second_side-lean.ensures.lean c.second_side-lean.ensures.small_lean) px py (shift_read c.args.x c.from-x.result c.ranges.x c.from-x.ensures) c.second_side-lean.ensures.lean (shift_read c.args.y c.from-y.result c.ranges.y c.from-y.ensures)))
          (leaning_small s.x (lean c.args.frame) c.args.x c.args.y c.requires.x (lean_small c.second_side-lean.result.0 (lean c.args.frame) c.second_side-lean.ensures.lean c.second_side-lean.ensures.small_lean) px py);
      y = subst (λ z. nat_abs z ≤ 2 ^ 126 + 2 ^ 125 + 2 ^ 75) (sym (moved_read s.y (rise c.args.frame) c.args.y c.second_side-lean.result.1 c.from-y.result c.requires.y (lean_small c.second_side-lean.result.1 (rise c.args.frame) c.second_side-lean.ensures.rise c.second_side-lean.ensures.small_rise) py c.second_side-lean.ensures.rise (shift_read c.args.y c.from-y.result c.ranges.y c.from-y.ensures)))
          (moved_small s.y (rise c.args.frame) c.args.y c.requires.y (lean_small c.second_side-lean.result.1 (rise c.args.frame) c.second_side-lean.ensures.rise c.second_side-lean.ensures.small_rise) py);
    }
