use Rattle.dd_symbol.proofs.CellShapes.{IsShaping}
use Rattle.dd_symbol.proofs.involutions.Involutions.cell.Given as goal

abbrev pub invariant-loop-turn : goal.invariant-loop-turn
invariant-loop-turn l = IsShaping l.self l.fn.pair l.fn.chamber l.turn l.place l.least l.kind
