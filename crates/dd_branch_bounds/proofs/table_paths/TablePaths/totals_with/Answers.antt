use Rattle.std.proofs.Common.{sym, ap, ◌∙◌, arith}
use Rattle.dd_model.specs.declared.pair.Pair.TheVariants.{Tile, Vertex}
use Rattle.dd_model.specs.Symbol.{first, second}
use Rattle.dd_branch_bounds.specs.Passing.{Passes}
use Rattle.dd_branch_bounds.proofs.KeptBounds.{sum_bounds}
use Rattle.dd_branch_bounds.proofs.LinkLemmas.{join_of_image}
use Rattle.dd_branch_bounds.proofs.table_paths.TablePaths.totals_with.Goals as goal

pub returns-in-Zero-clause-tiles : goal.returns-in-Zero-clause-tiles
returns-in-Zero-clause-tiles c P test kept image =
    let t = c.args.classes.now in
    let link = c.args.link.now in
    sum_bounds t.tiles P t.request Tile t.tiles_asked t.tiles_pair test c.total_with.result c.args.tiles
    (c.total_with.ensures.total P test
    (join_of_image (Passes P test) t.tiles.pair link.index c.flags-first.result.0.number c.flags-first.result.1.number link.chamber link.image 0
    (c.in-Zero.is ∙ sym (ap first t.tiles_pair)) (omega arith) c.flags-first.ensures.first c.flags-first.ensures.second image)
    kept.tiles)

pub returns-in-Zero-clause-vertices : goal.returns-in-Zero-clause-vertices
returns-in-Zero-clause-vertices c P test kept image s wanted is bound = bound

pub returns-in-One-clause-tiles : goal.returns-in-One-clause-tiles
returns-in-One-clause-tiles c P test kept image =
    let t = c.args.classes.now in
    let link = c.args.link.now in
    sum_bounds t.tiles P t.request Tile t.tiles_asked t.tiles_pair test c.total_with-in-One.result c.args.tiles
    (c.total_with-in-One.ensures.total P test
    (join_of_image (Passes P test) t.tiles.pair link.index c.flags-second.result.0.number c.flags-second.result.1.number link.chamber link.image 1
    (c.in-One.is ∙ sym (ap second t.tiles_pair)) (omega arith) c.flags-second.ensures.first c.flags-second.ensures.second image)
    kept.tiles)

pub returns-in-One-clause-vertices : goal.returns-in-One-clause-vertices
returns-in-One-clause-vertices c P test kept image =
    let t = c.args.classes.now in
    let link = c.args.link.now in
    sum_bounds t.vertices P t.request Vertex t.vertices_asked t.vertices_pair test c.total_with-in-One-2.result c.args.vertices
    (c.total_with-in-One-2.ensures.total P test
    (join_of_image (Passes P test) t.vertices.pair link.index c.flags-first.result.0.number c.flags-first.result.1.number link.chamber link.image 0
    (c.in-One.is ∙ sym (ap first t.vertices_pair)) (omega arith) c.flags-first.ensures.first c.flags-first.ensures.second image)
    kept.vertices)

pub returns-in-Two-clause-tiles : goal.returns-in-Two-clause-tiles
returns-in-Two-clause-tiles c P test kept image s wanted is bound = bound

pub returns-in-Two-clause-vertices : goal.returns-in-Two-clause-vertices
returns-in-Two-clause-vertices c P test kept image =
    let t = c.args.classes.now in
    let link = c.args.link.now in
    sum_bounds t.vertices P t.request Vertex t.vertices_asked t.vertices_pair test c.total_with-in-Two.result c.args.vertices
    (c.total_with-in-Two.ensures.total P test
    (join_of_image (Passes P test) t.vertices.pair link.index c.flags-second.result.0.number c.flags-second.result.1.number link.chamber link.image 1
    (c.in-Two.is ∙ sym (ap second t.vertices_pair)) (omega arith) c.flags-second.ensures.first c.flags-second.ensures.second image)
    kept.vertices)
