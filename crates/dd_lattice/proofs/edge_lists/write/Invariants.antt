use Rattle.std.specs.Prelude.{◌≡◌, ℕ, ◌≤◌, ◌<◌, length, slice_index}
use Rattle.dd_model.specs.Symbol.{item}
use Rattle.dd_lattice.proofs.edge_lists.write.Given as goal

abbrev pub invariant-loop-k : goal.invariant-loop-k
invariant-loop-k l = record {
  same : length l.numbers.items ≡ length l.initial.numbers.items;
  own : (q : ℕ) → q < l.k → q < length l.chambers → item l.numbers.items (slice_index l.chambers q) ≡ l.number;
  others : (d : ℕ) → 1 ≤ d → ((q : ℕ) → q < l.k → slice_index l.chambers q ≡ d → ⊥) → item l.numbers.items d ≡ item l.initial.numbers.items d;
}
