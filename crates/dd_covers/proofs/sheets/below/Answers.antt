use Rattle.dd_model.specs.Code.{chambers}
use Rattle.dd_covers.specs.Sheets.{alike}
use Rattle.dd_covers.proofs.PushLemmas.{sheet_more}
use Rattle.dd_covers.proofs.sheets.below.Goals as goal

pub loop-sheet-preserved : goal.loop-sheet-preserved
loop-sheet-preserved c =
    sheet_more c.loop-sheet._sheet (alike (chambers c.args.symbol.now)) c.loop-sheet.below.items c.push_chambers.new.below.items
    c.loop-sheet.invariant c.in_ok-push_chambers.ensures
