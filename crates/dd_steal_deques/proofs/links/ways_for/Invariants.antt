use Rattle.std.proofs.Common.{◌≡◌, ◌+◌, ◌<◌, ℕ, length, map, sum_by, All}
use Rattle.dd_steal_deques.specs.Hands.{hand_deck, hand_core, passes_at, way_end}
use Rattle.dd_steal_deques.specs.Ends.{way_taken}
use Rattle.dd_steal_deques.specs.Numbers.{times}
use Rattle.dd_steal_deques.specs.Places.{LeadsInto, others}
use Rattle.dd_steal_deques.proofs.links.ways_for.Given as goal

-- the ways made lead into the deques before this one
abbrev pub invariant-loop-other : goal.invariant-loop-other
invariant-loop-other g l =
    (map hand_core l.hands.items ≡ map hand_core l.fn.hands.items)
    × ((k : ℕ) → k < length l.fn.hands.items → passes_at l.hands.items k ≡ passes_at l.fn.hands.items k + times (k + 1) (others (l.fn.index + 1) l.other))
    × (map (λ e. e.from) (map way_end l.ways.items) ≡ others (l.fn.index + 1) l.other)
    × All (LeadsInto (map hand_deck l.fn.hands.items)) (map way_end l.ways.items)
    × (sum_by way_taken l.ways.items ≡ 0)
