use Rattle.std.proofs.Common.{◌≡◌, ◌+◌, ◌*◌, ◌%◌, ◌++◌, map, refl, ap, ◌∙◌, arith}
use Rattle.dd_model.specs.Code.{count_from}
use Rattle.dd_model.specs.Symbol.{op, item}
use Rattle.dd_covers.specs.Sheets.{all_sheets, image_in, sheet_images}
use Rattle.dd_covers.specs.Shifts.{shift}
use Rattle.dd_covers.proofs.PushLemmas.{pushed_more, sheet_more}
use Rattle.dd_covers.proofs.sheets.images.Goals as goal

pub loop-j-preserved : goal.loop-j-preserved
loop-j-preserved c =
    let s = c.args.symbol.now in
    let k = c.args.k in
    let i = c.args.i in
    let sheet = c.loop-sheet.sheet in
    let chamber = c.loop-j.j + 1 in
    let x = shift c.args.shifts.now i in
    let by : c.item.result ≡ x chamber = c.item.ensures ∙ ap (λ xs. item xs chamber) c.by-by.ensures in
    let value : c.op.result + (sheet + c.item.result) % k * c.size.result ≡ image_in s k x i sheet chamber =
    ap (λ z. z + (sheet + c.item.result) % k * c.size.result) c.op.ensures.image
    ∙ ap (λ z. op s i chamber + (sheet + z) % k * c.size.result) by
    ∙ ap (λ z. op s i chamber + (sheet + x chamber) % k * z) c.size.ensures.size in
    pushed_more (image_in s k x i sheet) c.loop-j.j (c.op.result + (sheet + c.item.result) % k * c.size.result)
    (all_sheets sheet (sheet_images s k x i)) c.loop-j.images.items c.push.new.self.items c.loop-j.invariant c.in_ok-push.ensures.items value

pub loop-sheet-preserved : goal.loop-sheet-preserved
loop-sheet-preserved c =
    let s = c.args.symbol.now in
    let i = c.args.i in
    let x = shift c.args.shifts.now i in
    let sheet = c.loop-sheet.sheet in
    let end : c.loop-j.j ≡ s.size = omega arith in
    let xs = all_sheets sheet (sheet_images s c.args.k x i) in
    sheet_more sheet (sheet_images s c.args.k x i) xs c.loop-j.images.items refl
    (c.loop-j.invariant ∙ ap (λ n. xs ++ map (image_in s c.args.k x i sheet) (count_from 1 n)) end)
