use Rattle.dd_branch_bounds.proofs.KeptBounds.{none_of_bounds}
use Rattle.dd_branch_bounds.proofs.table_paths.exceed.Goals as goal

pub returns : goal.returns
returns c small s size wanted tiles vertices tile_total vertex_total =
    none_of_bounds c.args.request.now s c.args.size c.in-Some.tiles c.in-Some-limited.vertices wanted size
    (c.in-Some.ensures.bound s size wanted tiles tile_total) (c.in-Some-limited.ensures.bound s size wanted vertices vertex_total) (c.is_too_small.ensures small)
