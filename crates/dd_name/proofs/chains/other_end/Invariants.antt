use Rattle.dd_name.proofs.ChainLemmas.{IsWalk}
use Rattle.dd_name.proofs.chains.other_end.Given as goal

abbrev pub invariant-loop-step : goal.invariant-loop-step
invariant-loop-step l = IsWalk l.symbol l.fn.pair l.fn.flag l._step l.chamber l.came l.index
