use Rattle.std.proofs.Common.{◌≡◌, ◌<◌, ℕ, length, map, All, slice_index_or}
use Rattle.dd_steal_deques.specs.Hands.{hand_pushed, hand_popped, HasNoPasses}
use Rattle.dd_steal_deques.proofs.rest.Rest.next.Given as goal

-- the deques before the index are empty
abbrev pub invariant-loop-index : goal.invariant-loop-index
invariant-loop-index g l =
    (length l.self.hands.items ≡ length l.initial.self.hands.items)
    × (map hand_pushed l.self.hands.items ≡ map hand_pushed l.initial.self.hands.items)
    × (map hand_popped l.self.hands.items ≡ map hand_popped l.initial.self.hands.items)
    × All HasNoPasses l.self.hands.items
    × ((k : ℕ) → k < l.index → slice_index_or (map hand_popped l.self.hands.items) k 0 ≡ slice_index_or (map hand_pushed l.self.hands.items) k 0)
