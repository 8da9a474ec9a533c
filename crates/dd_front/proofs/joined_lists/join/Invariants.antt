use Rattle.std.proofs.Common.{◌≡◌, ℕ, length, take}
use Rattle.std.specs.List.{AllByRecursion}
use Rattle.std.specs.Vec.Iter.{into_iter_items, into_iter_len}
use Rattle.dd_front.specs.Machine.{jobs_of}
use Rattle.dd_front.specs.Joining.{IsDone, AreBlocks}
use Rattle.dd_front.proofs.Joins.{AreJoining}
use Rattle.dd_front.proofs.joined_lists.join.Given as goal

abbrev pub invariant-loop-entry : goal.invariant-loop-entry
invariant-loop-entry l =
    AllByRecursion (λ e. IsDone e.state) (into_iter_items l.entry-iterator)
    × (into_iter_len l.entry-iterator ≡ length (into_iter_items l.entry-iterator))
    × ((k : ℕ) → AreBlocks (jobs_of (take k l.olds)) l.fn.handed.items → AreJoining (jobs_of (take k l.olds)) l.fn.handed.items (into_iter_items l.entry-iterator) l.lists.items l.joined)
