use Rattle.std.proofs.Common.{◌++◌, ◌∙◌, ap}
use Rattle.std.specs.Prelude.{string_bytes}
use Rattle.std.proofs.lemmas.Result.{on_ok_weaker}
use Rattle.dd_draw.specs.Document.{head_text}
use Rattle.dd_draw.proofs.Spots.{five_parts}
use Rattle.dd_draw.proofs.document.Drawing.put.Goals as goal

pub returns : goal.returns
returns c =
    let old = string_bytes c.args.text.now in
    on_ok_weaker c.writeln.result
    (five_parts old _ _ _ _ _ _ _ _ _ (string_bytes c.writeln.new.self)
    (c.in_ok-put_head.ensures ∙ ap (λ e. old ++ head_text e) c.extent.ensures.same)
    c.in_ok-put_cell.ensures c.in_ok-put_edges.ensures c.in_ok-put_vertices.ensures)
    c.writeln.ensures.bytes
