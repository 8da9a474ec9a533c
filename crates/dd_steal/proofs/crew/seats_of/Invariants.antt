use Rattle.std.proofs.Common.{◌≡◌, ◌+◌, ◌≤◌, length, vec_capacity}
use Rattle.std.specs.Vec.Iter.{into_iter_items}
use Rattle.dd_steal.proofs.crew.seats_of.Given as goal

abbrev pub invariant-loop-member : goal.invariant-loop-member
invariant-loop-member g l =
    (length l.seats.items ≡ length l.yielded)
    × (length l.yielded + length (into_iter_items l.member-iterator) ≡ length l.fn.crew.items)
    × (length l.fn.crew.items ≤ vec_capacity l.seats)
