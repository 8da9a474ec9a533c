use Rattle.std.proofs.Common.{◌++◌, ◌∙◌, codes, string_bytes, ap}
use Rattle.std.specs.Fmt.{signed_decimal}
use Rattle.std.proofs.lemmas.Result.{on_ok_weaker}
use Rattle.dd_draw.proofs.Spots.{cell_parts}
use Rattle.dd_draw.proofs.document.put_outline.Goals as goal

pub returns : goal.returns
returns c =
    let end = codes "Z\" stroke=\"silver\"/>\n" in
    on_ok_weaker c.writeln.result
    (λ is. is ∙ ap (λ t. t ++ (codes "L" ++ (signed_decimal c.args.three.x ++ (codes " " ++ (signed_decimal c.args.three.y ++ end))))) c.in_ok-write.ensures.bytes
    ∙ cell_parts (string_bytes c.args.text.now) (codes "<path d=\"M0 0") (codes "L") (codes " ") _ _ _ _ _ _ end)
    c.writeln.ensures.bytes
