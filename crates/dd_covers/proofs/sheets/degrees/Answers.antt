use Rattle.dd_covers.specs.Sheets.{alike, degrees_of}
use Rattle.dd_covers.proofs.PushLemmas.{sheet_more}
use Rattle.dd_covers.proofs.sheets.degrees.Goals as goal

pub loop-sheet-preserved : goal.loop-sheet-preserved
loop-sheet-preserved c =
    sheet_more c.loop-sheet._sheet (alike (degrees_of c.args.symbol.now c.args.pair)) c.loop-sheet.degrees.items c.push_degrees.new.degrees.items
    c.loop-sheet.invariant c.in_ok-push_degrees.ensures
