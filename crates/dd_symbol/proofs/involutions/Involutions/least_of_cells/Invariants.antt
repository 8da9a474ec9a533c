use Rattle.dd_symbol.proofs.CellMarks.{IsFilled}
use Rattle.dd_symbol.proofs.involutions.Involutions.least_of_cells.Given as goal

abbrev pub invariant-loop-k : goal.invariant-loop-k
invariant-loop-k l = IsFilled l.self l.pair l.k l.least.items
