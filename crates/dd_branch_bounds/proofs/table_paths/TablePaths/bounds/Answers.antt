use Rattle.std.proofs.Common.{sym, ◌∙◌, arith}
use Rattle.dd_model.specs.declared.pair.Pair.TheVariants.{Tile, Vertex}
use Rattle.dd_branch_tables.specs.Rows.{partial_of}
use Rattle.dd_branch_bounds.proofs.KeptBounds.{bounds_kept, census_counts}
use Rattle.dd_branch_bounds.proofs.table_paths.TablePaths.bounds.Goals as goal

pub returns-in_default-clause-none : goal.returns-in_default-clause-none
returns-in_default-clause-none c s sought =
    let t = c.args.classes.now in
    c.in_default.ensures.none s (sought.completes.size ∙ sym c.size-size.ensures.size) sought.wanted
    (census_counts t.vertices (partial_of c.args.table.now) t.request Vertex t.vertices_asked t.vertices_pair c.args.self.now.vertices c.requires.kept.vertices s sought)

pub returns-in_default-limited-clause-none : goal.returns-in_default-limited-clause-none
returns-in_default-limited-clause-none c s sought =
    let t = c.args.classes.now in
    c.in_default-limited.ensures.none s (sought.completes.size ∙ sym c.size-size.ensures.size) sought.wanted
    (census_counts t.tiles (partial_of c.args.table.now) t.request Tile t.tiles_asked t.tiles_pair c.args.self.now.tiles c.requires.kept.tiles s sought)

pub returns-in-Some-clause-bounds : goal.returns-in-Some-clause-bounds
returns-in-Some-clause-bounds c =
    let t = c.args.classes.now in
    let P = partial_of c.args.table.now in
    let both = bounds_kept t P c.args.self.now c.requires.kept in
    record {
      tiles_within = both.tiles_within;
      vertices_within = λ s sought. c.in-Some.ensures.bound s (sought.completes.size ∙ sym c.size-size.ensures.size) sought.wanted
          (census_counts t.vertices P t.request Vertex t.vertices_asked t.vertices_pair c.args.self.now.vertices c.requires.kept.vertices s sought) (both.vertices_within s sought);
      few_tiles = both.few_tiles;
      few_vertices = omega (arith, c.in-Some.ensures.few, both.few_vertices);
    }

pub returns-in-One-clause-bounds : goal.returns-in-One-clause-bounds
returns-in-One-clause-bounds c = bounds_kept c.args.classes.now (partial_of c.args.table.now) c.args.self.now c.requires.kept

pub returns-in-Some-limited-clause-bounds : goal.returns-in-Some-limited-clause-bounds
returns-in-Some-limited-clause-bounds c =
    let t = c.args.classes.now in
    let P = partial_of c.args.table.now in
    let both = bounds_kept t P c.args.self.now c.requires.kept in
    record {
      tiles_within = λ s sought. c.in-Some-limited.ensures.bound s (sought.completes.size ∙ sym c.size-size.ensures.size) sought.wanted
          (census_counts t.tiles P t.request Tile t.tiles_asked t.tiles_pair c.args.self.now.tiles c.requires.kept.tiles s sought) (both.tiles_within s sought);
      vertices_within = both.vertices_within;
      few_tiles = omega (arith, c.in-Some-limited.ensures.few, both.few_tiles);
      few_vertices = both.few_vertices;
    }
