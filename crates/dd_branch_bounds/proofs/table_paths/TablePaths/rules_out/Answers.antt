use Rattle.std.proofs.Common.{true, refl, sym, ◌∙◌, subst}
use Rattle.dd_model.specs.Wanted.{Wanted}
use Rattle.dd_branch_tables.specs.Rows.{partial_of}
use Rattle.dd_branch_bounds.specs.Counted.{HasCounted}
use Rattle.dd_branch_bounds.specs.Passing.{Passes}
use Rattle.dd_branch_bounds.specs.Shares.{BoundsReciprocals}
use Rattle.dd_branch_bounds.proofs.SumLemmas.{bounds_of_sum, census_as_kept, sum_as_kept, total_small}
use Rattle.dd_branch_bounds.proofs.table_paths.TablePaths.rules_out.Goals as goal

pub exceed-requires-clause-tile_total : goal.exceed-requires-clause-tile_total
exceed-requires-clause-tile_total c =
    total_small c.args.classes.now.tiles (partial_of c.args.table.now) c.args.self.now.tiles c.requires.kept.tiles

pub exceed-requires-clause-vertex_total : goal.exceed-requires-clause-vertex_total
exceed-requires-clause-vertex_total c =
    total_small c.args.classes.now.vertices (partial_of c.args.table.now) c.args.self.now.vertices c.requires.kept.vertices

pub returns : goal.returns
returns c small s sought =
    let t = c.args.classes.now in
    let sides = c.args.self.now in
    let P = partial_of c.args.table.now in
    let kept = c.requires.kept in
    let is : Passes P (λ _. true) s = record { completes = sought.completes; passed = refl } in
    let tile_wanted = subst (λ q. Wanted q s) (sym t.tiles_asked) sought.wanted in
    let vertex_wanted = subst (λ q. Wanted q s) (sym t.vertices_asked) sought.wanted in
    c.exceed.ensures small s (sought.completes.size ∙ sym c.size.ensures.size) sought.wanted
    (subst (λ p. HasCounted s p sides.tiles.census) t.tiles_pair (census_as_kept t.tiles P sides.tiles kept.tiles (λ _. true) s tile_wanted is))
    (subst (λ p. HasCounted s p sides.vertices.census) t.vertices_pair (census_as_kept t.vertices P sides.vertices kept.vertices (λ _. true) s vertex_wanted is))
    (subst (λ p. BoundsReciprocals s p sides.tiles.total) t.tiles_pair
    (bounds_of_sum t.tiles P (λ _. true) sides.tiles.total (sum_as_kept t.tiles P sides.tiles kept.tiles (λ _. true)) s tile_wanted is))
    (subst (λ p. BoundsReciprocals s p sides.vertices.total) t.vertices_pair
    (bounds_of_sum t.vertices P (λ _. true) sides.vertices.total (sum_as_kept t.vertices P sides.vertices kept.vertices (λ _. true)) s vertex_wanted is))
