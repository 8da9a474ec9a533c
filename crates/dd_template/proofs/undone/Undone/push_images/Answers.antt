use Rattle.std.proofs.Common.{◌≡◌, ◌++◌, [], ◌∷◌, ap, ◌∙◌}
use Rattle.dd_template.specs.Made.{moved, chamber_of, image_of}
use Rattle.dd_template.specs.Table.{table_of, move}
use Rattle.dd_template.proofs.ApplyLemmas.{one_part_more}
use Rattle.dd_template.proofs.undone.Undone.push_images.Goals as goal

pub loop-part-preserved : goal.loop-part-preserved
loop-part-preserved g c =
    let t = table_of c.args.self.now.table.now in
    let m = move t c.args.index c.loop-part.part in
    let home : c.moved_by-home.result ≡ moved c.args.symbol.now m.by c.args.chamber =
    c.moved_by-home.ensures.image ∙ ap (λ n. moved c.args.symbol.now n.by c.args.chamber) c.move_of-there.ensures in
    let here : c.number_of.result ≡ image_of t c.args.symbol.now c.args.index c.args.chamber c.loop-part.part =
    c.number_of.ensures ∙ (ap (λ d. chamber_of t d c.move_of-there.result.to) home ∙ ap (λ n. chamber_of t (moved c.args.symbol.now m.by c.args.chamber) n.to) c.move_of-there.ensures) in
    ◌∙◌ {b = c.loop-part.images.items ++ c.number_of.result ∷ []} c.in_ok-push.ensures.items
    (one_part_more c.args.images.now.items c.loop-part.images.items (image_of t c.args.symbol.now c.args.index c.args.chamber) c.loop-part.part c.number_of.result c.loop-part.invariant here)
