use Rattle.dd_text.proofs.CellReads.{AreAtCells}
use Rattle.dd_text.proofs.cells.at_cells.Given as goal

abbrev pub invariant-loop-k : goal.invariant-loop-k
invariant-loop-k l = AreAtCells l.size l.k l.cells l.numbers l.told.items
