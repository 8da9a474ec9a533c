use Rattle.dd_symbol.specs.Images.{of_rows}
use Rattle.dd_cells.proofs.CountLemmas.{IsCount}
use Rattle.dd_invol.proofs.cells.count.Given as goal

abbrev pub invariant-loop-k : goal.invariant-loop-k
invariant-loop-k l = IsCount (of_rows l.size l.images) l.pair l.k l.cells
