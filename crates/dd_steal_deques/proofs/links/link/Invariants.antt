use Rattle.std.proofs.Common.{◌≡◌, ◌+◌, ◌<◌, ◌≤◌, ℕ, [], length, map, All, slice_index_or}
use Rattle.dd_steal_deques.specs.Hands.{hand_deck, hand_ends, passes_at, IsNew}
use Rattle.dd_steal_deques.proofs.Linked.{AreWays}
use Rattle.dd_steal_deques.proofs.links.link.Given as goal

-- the hands before this one have their ways
abbrev pub invariant-loop-index : goal.invariant-loop-index
invariant-loop-index g l =
    (map hand_deck l.hands.items ≡ map hand_deck l.fn.hands.items)
    × ((room : ℕ) → All (IsNew room) l.fn.hands.items → All (IsNew room) l.hands.items)
    × ((k : ℕ) → k < l.index → k < length l.fn.hands.items → passes_at l.hands.items k + 1 ≡ l.index)
    × ((k : ℕ) → l.index ≤ k → k < length l.fn.hands.items → passes_at l.hands.items k ≡ l.index)
    × ((k : ℕ) → k < l.index → AreWays (map hand_deck l.fn.hands.items) (k + 1) (slice_index_or (map hand_ends l.hands.items) k []))
