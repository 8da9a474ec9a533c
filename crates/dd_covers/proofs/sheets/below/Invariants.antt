use Rattle.std.specs.Prelude.{◌≡◌}
use Rattle.dd_model.specs.Code.{chambers}
use Rattle.dd_covers.specs.Sheets.{all_sheets, alike}
use Rattle.dd_covers.proofs.sheets.below.Given as goal

abbrev pub invariant-loop-sheet : goal.invariant-loop-sheet
invariant-loop-sheet l = l.below.items ≡ all_sheets l._sheet (alike (chambers l.symbol))
