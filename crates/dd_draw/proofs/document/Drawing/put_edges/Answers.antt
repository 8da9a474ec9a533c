use Rattle.std.proofs.Common.{◌++◌, ap, ◌∙◌}
use Rattle.std.specs.Prelude.{string_bytes}
use Rattle.std.specs.List.{flat_map}
use Rattle.std.proofs.lemmas.List.{take_all}
use Rattle.dd_draw.specs.Document.{edge_text, line_text}
use Rattle.dd_draw.proofs.Spots.{text_more}
use Rattle.dd_draw.proofs.document.Drawing.put_edges.Goals as goal

pub loop-edge-preserved : goal.loop-edge-preserved
loop-edge-preserved c =
    text_more (edge_text c.args.self.now.frame c.args.self.now.points.now) c.deref-edge-items.result.now c.loop-edge.edge-index _ (string_bytes c.args.text.now) (string_bytes c.loop-edge.text) (string_bytes c.put_edge.new.text)
    c.loop-edge-test.true c.loop-edge.invariant
    (c.in_ok-put_edge.ensures ∙ (λ i. string_bytes c.loop-edge.text ++ line_text (c.ends_of.ensures.from i) (c.ends_of.ensures.to i)))

pub returns : goal.returns
returns c =
    c.loop-edge.invariant ∙ ap (λ es. string_bytes c.args.text.now ++ flat_map (edge_text c.args.self.now.frame c.args.self.now.points.now) es)
    (take_all c.loop-edge.edge-index c.deref-edge-items.result.now c.loop-edge-test.false ∙ c.deref-edge-items.ensures.value)
