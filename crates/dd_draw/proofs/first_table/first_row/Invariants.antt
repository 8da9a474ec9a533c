use Rattle.std.proofs.Common.{suc}
use Rattle.dd_draw.specs.Elimination.{whole, first_entry}
use Rattle.dd_draw.specs.Limit.{IsWide}
use Rattle.dd_draw.specs.Rows.{AreMade}
use Rattle.dd_draw.proofs.first_table.first_row.Given as goal

abbrev pub invariant-loop-place : goal.invariant-loop-place
invariant-loop-place l = AreMade (λ j. whole (first_entry l.fn.small.net.now l.fn.row (suc j))) (λ j. IsWide (whole (first_entry l.fn.small.net.now l.fn.row (suc j)))) l.place l.new.items
