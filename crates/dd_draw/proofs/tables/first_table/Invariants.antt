use Rattle.dd_draw.specs.Tables.{lists}
use Rattle.dd_draw.proofs.StepLemmas.{IsBegun}
use Rattle.dd_draw.proofs.tables.first_table.Given as goal

abbrev pub invariant-loop-place : goal.invariant-loop-place
invariant-loop-place l = IsBegun l.fn.small.net.now l.place (lists l.rows.items)
