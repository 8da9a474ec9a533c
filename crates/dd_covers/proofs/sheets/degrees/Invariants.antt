use Rattle.std.specs.Prelude.{◌≡◌}
use Rattle.dd_covers.specs.Sheets.{all_sheets, alike, degrees_of}
use Rattle.dd_covers.proofs.sheets.degrees.Given as goal

abbrev pub invariant-loop-sheet : goal.invariant-loop-sheet
invariant-loop-sheet l = l.degrees.items ≡ all_sheets l._sheet (alike (degrees_of l.symbol l.pair))
