use Rattle.std.proofs.Common.{◌≡◌, ◌+◌, ◌*◌, ◌%◌, ◌++◌, map, refl, ap, ◌∙◌, arith}
use Rattle.dd_model.specs.Code.{count_from}
use Rattle.dd_covers.specs.Sheets.{all_sheets, turned_in, turned_sheet}
use Rattle.dd_covers.proofs.PushLemmas.{pushed_more, sheet_more}
use Rattle.dd_covers.proofs.sheets.turn.Goals as goal

pub loop-j-preserved : goal.loop-j-preserved
loop-j-preserved c =
    let s = c.args.symbol.now in
    let k = c.args.k in
    let sheet = c.loop-sheet.sheet in
    let chamber = c.loop-j.j + 1 in
    let value : chamber + (sheet + 1) % k * c.size.result ≡ turned_in s k 1 sheet chamber = ap (λ z. chamber + (sheet + 1) % k * z) c.size.ensures.size in
    pushed_more (turned_in s k 1 sheet) c.loop-j.j (chamber + (sheet + 1) % k * c.size.result)
    (all_sheets sheet (turned_sheet s k 1)) c.loop-j.turn.items c.push.new.self.items c.loop-j.invariant c.in_ok-push.ensures.items value

pub loop-sheet-preserved : goal.loop-sheet-preserved
loop-sheet-preserved c =
    let s = c.args.symbol.now in
    let sheet = c.loop-sheet.sheet in
    let end : c.loop-j.j ≡ s.size = omega arith in
    let xs = all_sheets sheet (turned_sheet s c.args.k 1) in
    sheet_more sheet (turned_sheet s c.args.k 1) xs c.loop-j.turn.items refl
    (c.loop-j.invariant ∙ ap (λ n. xs ++ map (turned_in s c.args.k 1 sheet) (count_from 1 n)) end)
