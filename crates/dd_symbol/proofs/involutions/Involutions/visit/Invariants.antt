use Rattle.std.proofs.Common.{ℕ, ◌<◌}
use Rattle.dd_model.specs.Symbol.{op}
use Rattle.dd_model.proofs.AllIndices.{index_at_place}
use Rattle.dd_symbol.specs.Walk.{IsWalk, IsMarked, Grows}
use Rattle.dd_symbol.proofs.involutions.Involutions.visit.Given as goal

abbrev pub invariant-loop-i : goal.invariant-loop-i
invariant-loop-i l = record {
  walk : IsWalk l.self l.seen.items l.queue.items;
  grows : Grows l.initial.seen.items l.initial.queue.items l.seen.items l.queue.items;
  marked : (k : ℕ) → k < l.i-index → IsMarked l.seen.items (op l.self (index_at_place k) l.chamber);
}
