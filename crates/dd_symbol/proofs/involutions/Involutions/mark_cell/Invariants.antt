use Rattle.std.proofs.Common.{◌≡◌, ℕ, ◌+◌, ◌<◌, ◌≤◌}
use Rattle.dd_model.specs.Symbol.{IsChamber}
use Rattle.dd_model.specs.Cell.{turned}
use Rattle.dd_symbol.proofs.CellMarks.{IsMarking}
use Rattle.dd_symbol.proofs.involutions.Involutions.mark_cell.Given as goal

abbrev pub invariant-loop-turn : goal.invariant-loop-turn
invariant-loop-turn g l = record {
  place : l.place ≡ turned l.self l.fn.pair l._turn l.fn.chamber;
  chamber : IsChamber l.self l.place;
  unfixed : (k : ℕ) → 1 ≤ k → k < l._turn + 1 → turned l.self l.fn.pair k l.fn.chamber ≡ l.fn.chamber → ⊥;
  marking : IsMarking l.self l.fn.pair l.fn.chamber l._turn l.fn.mark l.fn.marks.items l.marks.items;
}
