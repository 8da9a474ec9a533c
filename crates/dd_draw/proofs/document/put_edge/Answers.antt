use Rattle.std.proofs.Common.{◌++◌, ◌∙◌, codes, string_bytes, ap}
use Rattle.std.proofs.lemmas.Result.{on_ok_weaker}
use Rattle.dd_draw.proofs.Spots.{line_parts}
use Rattle.dd_draw.proofs.document.put_edge.Goals as goal

pub returns : goal.returns
returns c =
    on_ok_weaker c.writeln.result
    (λ is. is ∙ ap (λ t. string_bytes c.args.text.now ++ t) (line_parts (codes "<path d=\"M") _ (codes " ") _ (codes "L") _ _ (codes "\"/>\n")))
    c.writeln.ensures.bytes
