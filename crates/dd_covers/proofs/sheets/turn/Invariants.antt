use Rattle.std.specs.Prelude.{◌≡◌, ◌++◌, map}
use Rattle.dd_model.specs.Code.{count_from}
use Rattle.dd_covers.specs.Sheets.{all_sheets, turned_in, turned_sheet}
use Rattle.dd_covers.proofs.sheets.turn.Given as goal

abbrev pub invariant-loop-sheet : goal.invariant-loop-sheet
invariant-loop-sheet l = l.turn.items ≡ all_sheets l.sheet (turned_sheet l.symbol l.k 1)

abbrev pub invariant-loop-j : goal.invariant-loop-j
invariant-loop-j l = l.turn.items ≡ all_sheets l.sheet (turned_sheet l.symbol l.k 1) ++ map (turned_in l.symbol l.k 1 l.sheet) (count_from 1 l.j)
