use Rattle.std.proofs.Common.{◌-◌, length}
use Rattle.dd_gram.proofs.SpreadLemmas.{IsSpread}
use Rattle.dd_gram.proofs.spread.steps_from.Given as goal

abbrev pub invariant-loop-step : goal.invariant-loop-step
invariant-loop-step l = IsSpread l.torus.symbol l.torus.net l.root l.met.items l.steps.items

abbrev pub decreases-loop-step : goal.decreases-loop-step
decreases-loop-step l = l.torus.net.vertices - length l.steps.items
