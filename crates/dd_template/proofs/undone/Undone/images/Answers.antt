use Rattle.dd_template.specs.Made.{image_of, of_chamber}
use Rattle.dd_template.specs.Table.{table_of}
use Rattle.dd_template.proofs.ApplyLemmas.{one_chamber_more}
use Rattle.dd_template.proofs.undone.Undone.images.Goals as goal

pub loop-k-preserved : goal.loop-k-preserved
loop-k-preserved g c =
    let t = table_of c.args.self.now.table.now in
    one_chamber_more c.loop-k.images.items c.push_images.new.images.items (of_chamber t (image_of t c.args.symbol.now c.args.index)) c.loop-k.k
    c.loop-k.invariant c.in_ok-push_images.ensures
