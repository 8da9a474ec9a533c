use Rattle.std.specs.Prelude.{◌≡◌, ℕ, ◌<◌, length, slice_index}
use Rattle.dd_union_find.specs.Parts.{IsFalling, AreInOnePart, HaveSameParts}
use Rattle.dd_union_find.proofs.forests.head.Given as goal

abbrev pub invariant-loop-place : goal.invariant-loop-place
invariant-loop-place l = record {
  falls : IsFalling l.above.items;
  parts : HaveSameParts l.fn.above.items l.above.items;
  inside : l.place < length l.above.items;
  in_part : AreInOnePart l.fn.above.items l.place l.node;
  others : (n : ℕ) → slice_index l.fn.above.items n ≡ n → slice_index l.above.items n ≡ n;
}

abbrev pub decreases-loop-place : goal.decreases-loop-place
decreases-loop-place l = l.place
