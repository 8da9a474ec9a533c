use Rattle.std.specs.Prelude.{◌≡◌, ℕ, ◌<◌, length, slice_index}
use Rattle.dd_union_find.proofs.forests.Forest.new.Given as goal

abbrev pub invariant-loop-node : goal.invariant-loop-node
invariant-loop-node l = record {
  many : length l.above.items ≡ l.node;
  own : (n : ℕ) → n < l.node → slice_index l.above.items n ≡ n;
}
