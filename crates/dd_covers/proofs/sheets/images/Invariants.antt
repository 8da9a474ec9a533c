use Rattle.std.specs.Prelude.{◌≡◌, ◌++◌, map}
use Rattle.dd_model.specs.Code.{count_from}
use Rattle.dd_covers.specs.Sheets.{all_sheets, image_in, sheet_images}
use Rattle.dd_covers.specs.Shifts.{shift}
use Rattle.dd_covers.proofs.sheets.images.Given as goal

abbrev pub invariant-loop-sheet : goal.invariant-loop-sheet
invariant-loop-sheet l = l.images.items ≡ all_sheets l.sheet (sheet_images l.symbol l.k (shift l.shifts l.i) l.i)

abbrev pub invariant-loop-j : goal.invariant-loop-j
invariant-loop-j l =
    l.images.items ≡ all_sheets l.sheet (sheet_images l.symbol l.k (shift l.shifts l.i) l.i) ++ map (image_in l.symbol l.k (shift l.shifts l.i) l.i l.sheet) (count_from 1 l.j)
