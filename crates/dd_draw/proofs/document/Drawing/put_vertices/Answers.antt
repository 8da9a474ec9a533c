use Rattle.std.proofs.Common.{◌++◌, ◌∙◌, pos, ap}
use Rattle.std.specs.Prelude.{string_bytes}
use Rattle.std.proofs.lemmas.List.{get_or_default}
use Rattle.dd_draw.specs.Document.{circle_text, vertex_text}
use Rattle.dd_draw.specs.Placement.{Point}
use Rattle.dd_draw.proofs.Spots.{text_more}
use Rattle.dd_draw.proofs.document.Drawing.put_vertices.Goals as goal

pub loop-point-preserved : goal.loop-point-preserved
loop-point-preserved c =
    let none : Point = record { x = record { num = pos 0; den = pos 0 }; y = record { num = pos 0; den = pos 0 } } in
    text_more (vertex_text c.args.self.now.frame) c.args.self.now.points.now c.loop-point.point-index none (string_bytes c.args.text.now) (string_bytes c.loop-point.text) (string_bytes c.put_circle.new.text)
    c.loop-point-test.true c.loop-point.invariant
    (c.in_ok-put_circle.ensures ∙ ap (λ s. string_bytes c.loop-point.text ++ circle_text s c.point-item.result) c.of.ensures.same
    ∙ ap (λ p. string_bytes c.loop-point.text ++ vertex_text c.args.self.now.frame p) (c.point-item.is ∙ get_or_default c.args.self.now.points.now c.loop-point.point-index _ none c.loop-point-test.true))
