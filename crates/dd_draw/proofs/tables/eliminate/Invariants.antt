use Rattle.dd_draw.specs.Tables.{lists, IsMidway}
use Rattle.dd_draw.proofs.tables.eliminate.Given as goal

abbrev pub invariant-loop-other : goal.invariant-loop-other
invariant-loop-other l = IsMidway l.fn.small.net.now l.fn.place l.other (lists l.rows.items)
