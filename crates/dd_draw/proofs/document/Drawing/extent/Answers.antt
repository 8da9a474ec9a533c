use Rattle.std.proofs.Common.{◌∙◌, ap, refl}
use Rattle.dd_draw.specs.Spots.{corners, ends_of, start}
use Rattle.dd_draw.specs.Extents.{box_at, with_spot}
use Rattle.dd_draw.proofs.Spots.{covering_two}
use Rattle.dd_draw.proofs.document.Drawing.extent.Goals as goal

pub loop-edge-preserved : goal.loop-edge-preserved
loop-edge-preserved c =
    let points = c.args.self.now.points.now in
    let edges = c.deref-edge-items.result.now in
    let to = c.ends_of.result.1 in
    record {
      same = covering_two (ends_of c.args.self.now.frame points) edges c.loop-edge.edge-index _ (box_at start) (corners c.args.self.now.frame) _ _ c.loop-edge.extent c.with-extent-in-loop-edge.result
          c.loop-edge-test.true refl c.loop-edge.invariant.same
          (c.with-extent-in-loop-edge.ensures.same ∙ ap (λ e. with_spot e to) c.with-in-loop-edge.ensures.same
          ∙ (λ i. with_spot (with_spot c.loop-edge.extent (c.ends_of.ensures.from i)) (c.ends_of.ensures.to i)));
      small = c.with-extent-in-loop-edge.ensures.small;
    }
