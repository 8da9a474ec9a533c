use Rattle.dd_draw.specs.Tables.{lists, IsTable}
use Rattle.dd_draw.proofs.tables.last_table.Given as goal

abbrev pub invariant-loop-place : goal.invariant-loop-place
invariant-loop-place l = IsTable l.fn.small.net.now l.place (lists l.rows.items)
