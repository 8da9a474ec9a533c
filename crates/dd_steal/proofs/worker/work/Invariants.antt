use Rattle.std.proofs.Common.{◌≡◌, ◌≤◌}
use Rattle.dd_steal_deques.specs.Hands.{hand_place}
use Rattle.dd_steal.specs.Worker.{IsLeftWith}
use Rattle.dd_steal.proofs.worker.work.Given as goal

-- each ticket that the worker got it has parted with, and the finder is for the same request
abbrev pub invariant-loop : goal.invariant-loop
invariant-loop g l =
    (goal.iterator-loop g).can_next l.iterator' × (goal.iterator-loop g).is_finite l.iterator' × IsLeftWith 0 l.initial.seat l.initial.hand l.seat l.hand
    × (l.initial.seat.shares.look.amount ≤ l.seat.shares.look.amount) × (l.seat.worker ≡ l.initial.seat.worker) × (hand_place l.hand ≡ hand_place l.initial.hand)
    × (g.F.Finder.request l.finder ≡ g.F.Finder.request l.initial.finder)
