use Rattle.std.proofs.Common.{◌++◌, ◌∙◌, [], ◌∷◌, string_bytes, get_or, ap}
use Rattle.std.proofs.lemmas.Result.{on_ok_weaker}
use Rattle.dd_draw.specs.Spots.{start}
use Rattle.dd_draw.specs.Document.{outline_text}
use Rattle.dd_draw.proofs.document.put_cell.Goals as goal

pub returns : goal.returns
returns c =
    on_ok_weaker c.put_outline.result
    (λ is. is ∙ ap (λ ss. string_bytes c.args.text.now ++ outline_text (get_or ss 0 start ∷ get_or ss 1 start ∷ get_or ss 2 start ∷ [])) c.corners.ensures.same)
    c.put_outline.ensures
