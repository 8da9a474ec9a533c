use Rattle.std.proofs.Common.{◌≡◌, length}
use Rattle.dd_lattice.specs.NetOf.{IsNet}
use Rattle.dd_gram.proofs.NumberLemmas.{AreSetTo}
use Rattle.dd_gram.proofs.edge_numbers.EdgeNumbers.new.Given as goal

abbrev pub invariant-loop-k : goal.invariant-loop-k
invariant-loop-k l = record {
  whole_x : length l.x.items ≡ l.torus-inside.symbol.now.size;
  whole_y : length l.y.items ≡ l.torus-inside.symbol.now.size;
  set_x : (is : IsNet l.torus-inside.symbol.now l.torus-inside.net.now) → AreSetTo l.torus-inside.symbol.now is.first l.torus-inside.edges.items l.k l.x.items;
  set_y : (is : IsNet l.torus-inside.symbol.now l.torus-inside.net.now) → AreSetTo l.torus-inside.symbol.now is.second l.torus-inside.edges.items l.k l.y.items;
}
