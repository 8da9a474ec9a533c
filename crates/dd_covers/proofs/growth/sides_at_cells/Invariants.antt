use Rattle.std.specs.Prelude.{◌≡◌, ℕ, [], length}
use Rattle.dd_covers.specs.Waiting.{AreAtCells, places}
use Rattle.dd_covers.proofs.growth.sides_at_cells.Given as goal

abbrev pub invariant-loop : goal.invariant-loop
invariant-loop l = record {
  many : length l.at.items ≡ l.counter;
  none : (n : ℕ) → places l.at.items n ≡ [];
}

abbrev pub invariant-loop-k : goal.invariant-loop-k
invariant-loop-k l = record {
  many : length l.at.items ≡ l.cells;
  sides : AreAtCells l.sides l.k (places l.at.items);
}
