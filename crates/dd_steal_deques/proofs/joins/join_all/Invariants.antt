use Rattle.std.proofs.Common.{◌≡◌, ◌+◌, ◌<◌, ◌≤◌, ℕ, length, map, sum_by, drop}
use Rattle.dd_steal_deques.specs.Ends.{way_taken}
use Rattle.dd_steal_deques.specs.Hands.{hand_deck, hand_ways, hand_pushed, hand_popped, passes_at}
use Rattle.dd_steal_deques.proofs.joins.join_all.Given as goal

-- the ways of the hands before this one are joined
abbrev pub invariant-loop-index : goal.invariant-loop-index
invariant-loop-index g l =
    (map hand_deck l.hands.items ≡ map hand_deck l.fn.hands.items)
    × (map hand_pushed l.hands.items ≡ map hand_pushed l.fn.hands.items)
    × (drop l.index (map hand_ways l.hands.items) ≡ drop l.index (map hand_ways l.fn.hands.items))
    × (sum_by hand_popped l.hands.items + sum_by (sum_by way_taken) (drop l.index (map hand_ways l.fn.hands.items))
    ≡ sum_by hand_popped l.fn.hands.items + sum_by (sum_by way_taken) (map hand_ways l.fn.hands.items))
    × ((k : ℕ) → k < l.index → k < length l.fn.hands.items → passes_at l.hands.items k + l.index ≤ length l.fn.hands.items)
    × ((k : ℕ) → l.index ≤ k → k < length l.fn.hands.items → passes_at l.hands.items k + l.index + 1 ≤ length l.fn.hands.items)
