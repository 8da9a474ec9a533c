use Rattle.dd_draw.specs.Limit.{IsWide}
use Rattle.dd_draw.specs.Rows.{AreMade, quotients}
use Rattle.dd_draw.proofs.rows.divided.Given as goal

abbrev pub invariant-loop-place : goal.invariant-loop-place
invariant-loop-place l = AreMade (quotients l.fn.row l.fn.pivot) (λ j. IsWide (quotients l.fn.row l.fn.pivot j)) l.place l.new.items
