use Rattle.std.proofs.Common.{◌≡◌}
use Rattle.dd_model.specs.Symbol.{IsChamber}
use Rattle.dd_model.specs.Cell.{turned}
use Rattle.dd_cells.proofs.MemberLemmas.{AreMet}
use Rattle.dd_cells.proofs.cell_list.walked.Given as goal

abbrev pub invariant-loop-turn : goal.invariant-loop-turn
invariant-loop-turn l = record {
  at : l.place ≡ turned l.symbol l.pair l._turn l.chamber;
  chamber : IsChamber l.symbol l.place;
  met : AreMet l.symbol l.pair l.chamber l._turn l.chambers.items;
}
