use Rattle.std.specs.Prelude.{◌≡◌, ℕ, ◌+◌, ◌*◌, ◌<◌, ◌≤◌, length, slice_index}
use Rattle.dd_model.specs.declared.pair.Pair.{Pair}
use Rattle.dd_model.specs.Symbol.{IsChamber}
use Rattle.dd_covers.specs.Wanting.{IsWantedAt}
use Rattle.dd_covers.proofs.wanted_values.first_wants.Given as goal

abbrev pub invariant-loop-j : goal.invariant-loop-j
invariant-loop-j l = record {
  size : length l.wants.items ≡ 3 * (l.fn.s.size + 1);
  few : (n : ℕ) → slice_index l.wants.items n < l.k;
  each : (p : Pair) (d : ℕ) → IsChamber l.fn.s d → d ≤ l.j → IsWantedAt l.fn.s l.k l.wants.items p d;
}
