use Rattle.dd_cells.proofs.CountLemmas.{IsCount}
use Rattle.dd_cells.proofs.counts.count.Given as goal

abbrev pub invariant-loop-k : goal.invariant-loop-k
invariant-loop-k l = IsCount l.symbol l.pair l.k l.cells
