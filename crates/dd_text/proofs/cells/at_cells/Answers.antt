use Rattle.std.proofs.Common.{arith}
use Rattle.dd_text.proofs.CellReads.{one_at_cells, all_at_cells}
use Rattle.dd_text.proofs.cells.at_cells.Goals as goal

pub loop-k-preserved : goal.loop-k-preserved
loop-k-preserved c =
    one_at_cells c.args.size c.loop-k.k c.args.cells.now c.args.numbers.now c.loop-k.told.items c.requires.ascending c.requires.chambers (omega arith) c.loop-k.invariant

pub returns-clause-told : goal.returns-clause-told
returns-clause-told c =
    all_at_cells c.args.size c.loop-k.k c.args.cells.now c.args.numbers.now c.loop-k.told.items c.requires.counts (omega arith) c.loop-k.invariant
