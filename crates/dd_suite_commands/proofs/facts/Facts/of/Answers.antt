use Rattle.std.proofs.Common.{ap, ◌∙◌}
use Rattle.dd_model.proofs.CellLists.{cells_exist}
use Rattle.dd_model.specs.declared.pair.Pair.TheVariants.{Tile, Vertex, Edge}
use Rattle.dd_suite_commands.proofs.facts.Facts.of.Goals as goal

pub returns : goal.returns
returns c =
    let s = c.args.s.now in
    let inv = c.symbol.ensures.symbol.symbol.table.involutions in
    let tiles = cells_exist s inv Tile in
    let vertices = cells_exist s inv Vertex in
    let edges = cells_exist s inv Edge in
    record {
      chambers = c.size.ensures.size ∙ ap (λ x. x.size) c.symbol.ensures.same;
      tiles = record { cells = tiles.0; are_cells = tiles.1; number = c.count.ensures.cells tiles.0 tiles.1 };
      vertices = record { cells = vertices.0; are_cells = vertices.1; number = c.count-2.ensures.cells vertices.0 vertices.1 };
      edges = record { cells = edges.0; are_cells = edges.1; number = c.count-3.ensures.cells edges.0 edges.1 };
      curvature = c.curvature.ensures;
      orientation = c.in_ok-orientation.ensures;
      minimal = c.in_ok-is_minimal.ensures;
    }
