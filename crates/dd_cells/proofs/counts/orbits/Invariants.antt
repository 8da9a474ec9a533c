use Rattle.std.proofs.Common.{◌≤◌}
use Rattle.dd_cells.proofs.CountLemmas.{IsOrbitCount}
use Rattle.dd_cells.proofs.counts.orbits.Given as goal

abbrev pub invariant-loop-k : goal.invariant-loop-k
invariant-loop-k l = record {
  counted : IsOrbitCount l.symbol l.i l.k l.orbits;
  small : l.orbits ≤ l.k;
}
