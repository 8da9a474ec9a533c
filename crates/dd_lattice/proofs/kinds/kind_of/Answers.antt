use Rattle.dd_model.specs.declared.index.Index.TheVariants.{Zero, Two}
use Rattle.dd_model.specs.declared.pair.Pair.TheVariants.{Tile, Vertex}
use Rattle.dd_lattice.specs.Edges.{IsTreeEdge}
use Rattle.dd_lattice.proofs.KindLemmas.{listed_edge, are_joined_before, not_joined_before, forest_joined, forest_same}
use Rattle.dd_lattice.proofs.kinds.kind_of.Goals as goal

pub join_cells-requires-clause-chamber : goal.join_cells-requires-clause-chamber
join_cells-requires-clause-chamber c = (listed_edge c.args.t.now c.args.edges.now c.requires.edges c.args.k c.requires.inside).0

pub returns-then-join_cells-clause-kind : goal.returns-then-join_cells-clause-kind
returns-then-join_cells-clause-kind c = not_joined_before c.args.t.now c.if-join_cells.ensures.symbol.symbol.table.involutions Vertex Zero (λ e. Unit {0}) c.args.edges.now c.requires.edges c.args.k c.requires.inside c.args.vertices.now c.requires.vertices c.if-join_cells.ensures.two

pub returns-then-join_cells-clause-vertices : goal.returns-then-join_cells-clause-vertices
returns-then-join_cells-clause-vertices c = forest_joined c.args.t.now c.if-join_cells.ensures.symbol.symbol.table.involutions Vertex Zero (λ e. Unit {0}) c.args.edges.now c.requires.edges c.args.k c.requires.inside c.args.vertices.now c.requires.vertices c.join_cells.new.above tt c.join_cells.ensures.joined c.join_cells.ensures.falls

pub returns-then-join_cells-clause-tiles : goal.returns-then-join_cells-clause-tiles
returns-then-join_cells-clause-tiles c =
    forest_same c.args.t.now c.if-join_cells.ensures.symbol.symbol.table.involutions Tile Two (λ e. ¬ IsTreeEdge c.args.t.now e) c.args.edges.now c.requires.edges c.args.k c.args.tiles.now
    (λ none. none (not_joined_before c.args.t.now c.if-join_cells.ensures.symbol.symbol.table.involutions Vertex Zero (λ e. Unit {0}) c.args.edges.now c.requires.edges c.args.k c.requires.inside c.args.vertices.now c.requires.vertices c.if-join_cells.ensures.two)) c.requires.tiles

pub join_cells-requires-2-clause-chamber : goal.join_cells-requires-2-clause-chamber
join_cells-requires-2-clause-chamber c = (listed_edge c.args.t.now c.args.edges.now c.requires.edges c.args.k c.requires.inside).0

pub returns-then-join_cells-2-clause-kind : goal.returns-then-join_cells-2-clause-kind
returns-then-join_cells-2-clause-kind c = (
  λ tree. tree (are_joined_before c.args.t.now c.if-join_cells.ensures.symbol.symbol.table.involutions Vertex Zero (λ e. Unit {0}) c.args.edges.now c.requires.edges c.args.k c.requires.inside c.args.vertices.now c.requires.vertices c.if-join_cells.ensures.one_part),
  not_joined_before c.args.t.now c.if-join_cells.ensures.symbol.symbol.table.involutions Tile Two (λ e. ¬ IsTreeEdge c.args.t.now e) c.args.edges.now c.requires.edges c.args.k c.requires.inside c.args.tiles.now c.requires.tiles c.if-join_cells-2.ensures.two,
)

pub returns-then-join_cells-2-clause-vertices : goal.returns-then-join_cells-2-clause-vertices
returns-then-join_cells-2-clause-vertices c = forest_joined c.args.t.now c.if-join_cells.ensures.symbol.symbol.table.involutions Vertex Zero (λ e. Unit {0}) c.args.edges.now c.requires.edges c.args.k c.requires.inside c.args.vertices.now c.requires.vertices c.join_cells.new.above tt c.join_cells.ensures.joined c.join_cells.ensures.falls

pub returns-then-join_cells-2-clause-tiles : goal.returns-then-join_cells-2-clause-tiles
returns-then-join_cells-2-clause-tiles c =
    forest_joined c.args.t.now c.if-join_cells.ensures.symbol.symbol.table.involutions Tile Two (λ e. ¬ IsTreeEdge c.args.t.now e) c.args.edges.now c.requires.edges c.args.k c.requires.inside c.args.tiles.now c.requires.tiles c.join_cells-2.new.above
    (λ tree. tree (are_joined_before c.args.t.now c.if-join_cells.ensures.symbol.symbol.table.involutions Vertex Zero (λ e. Unit {0}) c.args.edges.now c.requires.edges c.args.k c.requires.inside c.args.vertices.now c.requires.vertices c.if-join_cells.ensures.one_part)) c.join_cells-2.ensures.joined c.join_cells-2.ensures.falls

pub returns-clause-kind : goal.returns-clause-kind
returns-clause-kind c = (
  λ tree. tree (are_joined_before c.args.t.now c.if-join_cells.ensures.symbol.symbol.table.involutions Vertex Zero (λ e. Unit {0}) c.args.edges.now c.requires.edges c.args.k c.requires.inside c.args.vertices.now c.requires.vertices c.if-join_cells.ensures.one_part),
  are_joined_before c.args.t.now c.if-join_cells.ensures.symbol.symbol.table.involutions Tile Two (λ e. ¬ IsTreeEdge c.args.t.now e) c.args.edges.now c.requires.edges c.args.k c.requires.inside c.args.tiles.now c.requires.tiles c.if-join_cells-2.ensures.one_part,
)

pub returns-clause-vertices : goal.returns-clause-vertices
returns-clause-vertices c = forest_joined c.args.t.now c.if-join_cells.ensures.symbol.symbol.table.involutions Vertex Zero (λ e. Unit {0}) c.args.edges.now c.requires.edges c.args.k c.requires.inside c.args.vertices.now c.requires.vertices c.join_cells.new.above tt c.join_cells.ensures.joined c.join_cells.ensures.falls

pub returns-clause-tiles : goal.returns-clause-tiles
returns-clause-tiles c =
    forest_joined c.args.t.now c.if-join_cells.ensures.symbol.symbol.table.involutions Tile Two (λ e. ¬ IsTreeEdge c.args.t.now e) c.args.edges.now c.requires.edges c.args.k c.requires.inside c.args.tiles.now c.requires.tiles c.join_cells-2.new.above
    (λ tree. tree (are_joined_before c.args.t.now c.if-join_cells.ensures.symbol.symbol.table.involutions Vertex Zero (λ e. Unit {0}) c.args.edges.now c.requires.edges c.args.k c.requires.inside c.args.vertices.now c.requires.vertices c.if-join_cells.ensures.one_part)) c.join_cells-2.ensures.joined c.join_cells-2.ensures.falls
