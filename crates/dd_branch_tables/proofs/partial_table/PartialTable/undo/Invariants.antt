use Rattle.std.proofs.Common.{◌≡◌}
use Rattle.dd_branch_tables.specs.Kept.{rows_of}
use Rattle.dd_branch_tables.specs.Rows.{depth_of, unwound, IsReady}
use Rattle.dd_branch_tables.proofs.partial_table.PartialTable.undo.Given as goal

abbrev pub invariant-loop-self : goal.invariant-loop-self
invariant-loop-self l = record {
  ready : IsReady (rows_of l.self-inside);
  same : unwound (rows_of l.self-inside) l.mark ≡ unwound (rows_of l.initial.self-inside) l.mark;
}

abbrev pub decreases-loop-self : goal.decreases-loop-self
decreases-loop-self l = depth_of (rows_of l.self-inside)
