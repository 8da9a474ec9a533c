use Rattle.dd_symbol.specs.Images.{of_rows}
use Rattle.dd_symbol.proofs.LeastWalks.{IsWalking}
use Rattle.dd_invol.proofs.cells.is_least_of_cell.Given as goal

abbrev pub invariant-loop-turn : goal.invariant-loop-turn
invariant-loop-turn l = IsWalking (of_rows l.size l.images) l.pair l.chamber l._turn l.place
