use Rattle.std.proofs.Common.{◌≡◌, ◌++◌, ◌∙◌, codes, string_bytes, ap, subst}
use Rattle.std.specs.Prelude.{OnOk}
use Rattle.std.specs.Fmt.{signed_decimal}
use Rattle.std.proofs.lemmas.Result.{on_ok_weaker}
use Rattle.dd_draw.specs.Document.{middle_text, circle_text}
use Rattle.dd_draw.proofs.Spots.{circle_parts}
use Rattle.dd_draw.proofs.document.put_circle.Goals as goal

pub returns : goal.returns
returns c =
    let p = c.point.inside in
    let end = codes "\"/>\n" in
    subst (λ q. OnOk c.writeln.result (string_bytes c.writeln.new.self ≡ string_bytes c.args.text.now ++ circle_text c.args.spot q)) c.point.view_is
    (on_ok_weaker c.writeln.result
    (λ is. is ∙ ap (λ t. t ++ (signed_decimal p.x.num ++ (codes "/" ++ (signed_decimal p.x.den ++ (codes " " ++ (signed_decimal p.y.num ++ (codes "/" ++ (signed_decimal p.y.den ++ end)))))))) c.in_ok-write.ensures.bytes
    ∙ circle_parts (string_bytes c.args.text.now) (middle_text c.args.spot) _ (codes "/") _ (codes " ") _ _ end)
    c.writeln.ensures.bytes)
