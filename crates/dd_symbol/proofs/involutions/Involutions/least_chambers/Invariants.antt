use Rattle.dd_symbol.proofs.CellMarks.{AreSwept}
use Rattle.dd_symbol.proofs.involutions.Involutions.least_chambers.Given as goal

abbrev pub invariant-loop-k : goal.invariant-loop-k
invariant-loop-k l = AreSwept l.self l.fn.pair l.k l.marked.items l.chambers.items
