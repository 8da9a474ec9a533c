use Rattle.dd_front.proofs.Placed.{IsFarther}
use Rattle.dd_front.proofs.lookups.place_near.Given as goal

abbrev pub invariant-loop-step : goal.invariant-loop-step
invariant-loop-step l = IsFarther l.number l.entries l.near l.step
