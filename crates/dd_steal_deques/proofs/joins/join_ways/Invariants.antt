use Rattle.std.proofs.Common.{◌≡◌, ◌+◌, ◌-◌, ℕ, map, sum_by, All}
use Rattle.std.specs.Vec.Iter.{into_iter_items}
use Rattle.dd_steal_deques.specs.Hands.{hand_deck, hand_ways, hand_pushed, hand_popped, passes_at, way_end}
use Rattle.dd_steal_deques.specs.Ends.{way_taken}
use Rattle.dd_steal_deques.specs.Numbers.{times}
use Rattle.dd_steal_deques.specs.Places.{LeadsInto}
use Rattle.dd_steal_deques.proofs.joins.join_ways.Given as goal

-- what was joined, with what is left, is all
abbrev pub invariant-loop-way : goal.invariant-loop-way
invariant-loop-way g l =
    (map hand_deck l.hands.items ≡ map hand_deck l.fn.hands.items)
    × (map hand_ways l.hands.items ≡ map hand_ways l.fn.hands.items)
    × (map hand_pushed l.hands.items ≡ map hand_pushed l.fn.hands.items)
    × (sum_by hand_popped l.hands.items + sum_by way_taken (into_iter_items l.way-iterator) ≡ sum_by hand_popped l.fn.hands.items + sum_by way_taken l.fn.ways.items)
    × ((k : ℕ) → passes_at l.hands.items k - times (k + 1) (map (λ e. e.from) (map way_end (into_iter_items l.way-iterator)))
    ≡ passes_at l.fn.hands.items k - times (k + 1) (map (λ e. e.from) (map way_end l.fn.ways.items)))
    × All (LeadsInto (map hand_deck l.fn.hands.items)) (map way_end (into_iter_items l.way-iterator))
