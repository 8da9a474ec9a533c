use Rattle.std.proofs.Common.{◌≡◌}
use Rattle.dd_steal_deques.specs.Hands.{hand_pushed, hand_popped, hand_stolen, hand_place}
use Rattle.dd_steal.proofs.ticket_search.steal_one.Given as goal

-- nothing was stolen yet
abbrev pub invariant-loop-worker : goal.invariant-loop-worker
invariant-loop-worker g l =
    (hand_stolen l.hand ≡ hand_stolen l.initial.hand) × (hand_popped l.hand ≡ hand_popped l.initial.hand) × (hand_pushed l.hand ≡ hand_pushed l.initial.hand)
    × (hand_place l.hand ≡ hand_place l.initial.hand)
