use Rattle.std.proofs.Common.{◌⊎◌}
use Rattle.dd_draw.specs.Limit.{IsWide}
use Rattle.dd_draw.specs.Rows.{AreMade, products, remainders}
use Rattle.dd_draw.proofs.rows.remaining.Given as goal

abbrev pub invariant-loop-place : goal.invariant-loop-place
invariant-loop-place l = AreMade (remainders l.fn.row l.fn.factor l.fn.top)
    (λ j. IsWide (remainders l.fn.row l.fn.factor l.fn.top j) ⊎ IsWide (products l.fn.factor l.fn.top j)) l.place l.new.items
