use Rattle.std.proofs.Common.{◌++◌, ◌∙◌, codes, string_bytes, ap}
use Rattle.std.specs.Fmt.{signed_decimal}
use Rattle.std.proofs.lemmas.Result.{on_ok_weaker}
use Rattle.dd_draw.proofs.Spots.{margin_read, width_read, head_parts}
use Rattle.dd_draw.proofs.document.put_head.Goals as goal

pub returns : goal.returns
returns c =
    let e = c.args.extent in
    let small = c.requires in
    let head = codes "<svg xmlns=\"http://www.w3.org/2000/svg\" viewBox=\"" in
    let tail = codes "\" fill=\"none\" stroke=\"black\" stroke-width=\"6\">\n" in
    on_ok_weaker c.writeln.result
    (λ is. is ∙ (λ i. string_bytes c.args.text.now ++ (head ++
    (signed_decimal (margin_read e.left small.left i) ++ (codes " " ++ (signed_decimal (margin_read e.top small.top i) ++ (codes " " ++
    (signed_decimal (width_read e.right e.left c.abs_diff.result small.along small.right small.left c.abs_diff.ensures i) ++ (codes " " ++
    (signed_decimal (width_read e.bottom e.top c.abs_diff-2.result small.down small.bottom small.top c.abs_diff-2.ensures i) ++ tail)))))))))
    ∙ ap (λ t. string_bytes c.args.text.now ++ t) (head_parts head _ (codes " ") _ _ _ tail))
    c.writeln.ensures.bytes
