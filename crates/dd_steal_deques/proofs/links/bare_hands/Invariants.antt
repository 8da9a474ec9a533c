use Rattle.std.proofs.Common.{◌≡◌, length, All}
use Rattle.dd_steal_deques.specs.Hands.{IsNew, HasNoPasses}
use Rattle.dd_steal_deques.proofs.links.bare_hands.Given as goal

abbrev pub invariant-loop : goal.invariant-loop
invariant-loop g l = (length l.hands.items ≡ l.counter) × All (IsNew l.fn.room) l.hands.items × All HasNoPasses l.hands.items
