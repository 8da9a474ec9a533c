use Rattle.dd_symbol.proofs.LeastWalks.{IsWalking}
use Rattle.dd_symbol.proofs.symbol.Symbol.is_least_of_cell.Given as goal

abbrev pub invariant-loop-turn : goal.invariant-loop-turn
invariant-loop-turn l = IsWalking l.self l.fn.pair l.fn.chamber l._turn l.place
