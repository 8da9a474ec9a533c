use Rattle.std.proofs.Common.{◌+◌, ◌*◌, ◌<◌, true, refl, subst}
use Rattle.dd_branch_tables.specs.Rows.{partial_of}
use Rattle.dd_branch_bounds.specs.Units.{share_unit}
use Rattle.dd_branch_bounds.proofs.LinkLemmas.{none_of_sums}
use Rattle.dd_branch_bounds.proofs.SumLemmas.{sum_as_kept, total_small}
use Rattle.dd_branch_bounds.proofs.table_paths.TablePaths.are_too_small.Goals as goal

pub is_too_small-requires-clause-tiles : goal.is_too_small-requires-clause-tiles
is_too_small-requires-clause-tiles c =
    total_small c.args.classes.now.tiles (partial_of c.args.table.now) c.args.self.now.tiles c.requires.kept.tiles

pub is_too_small-requires-clause-vertices : goal.is_too_small-requires-clause-vertices
is_too_small-requires-clause-vertices c =
    total_small c.args.classes.now.vertices (partial_of c.args.table.now) c.args.self.now.vertices c.requires.kept.vertices

pub returns : goal.returns
returns c small s sought =
    let t = c.args.classes.now in
    let sides = c.args.self.now in
    let P = partial_of c.args.table.now in
    none_of_sums t.request P (λ _. true) t.tiles t.vertices sides.tiles.total sides.vertices.total t.tiles_asked t.vertices_asked t.tiles_pair t.vertices_pair
    (sum_as_kept t.tiles P sides.tiles c.requires.kept.tiles (λ _. true)) (sum_as_kept t.vertices P sides.vertices c.requires.kept.vertices (λ _. true))
    (subst (λ n. 2 * (sides.tiles.total + sides.vertices.total) < n * share_unit) c.size.ensures.size (c.is_too_small.ensures small))
    s sought.wanted (record { completes = sought.completes; passed = refl })
