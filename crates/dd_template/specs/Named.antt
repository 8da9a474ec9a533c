-- The tables that have names, and which of them are those of operations.
use Rattle.std.specs.Prelude.{[], ◌∷◌, Some, None}
use Rattle.dd_model.specs.declared.index.Index.TheVariants.{Zero, One, Two}
use Rattle.dd_template.specs.declared.tables.Degree.TheVariants.{OfTile, OfVertex, Fixed}
use Rattle.dd_template.specs.declared.operations.Operation.{Operation}
use Rattle.dd_template.specs.declared.operations.Operation.TheVariants.{Ambo, Truncate, Chamfer}
use Rattle.dd_template.specs.Table.{Table}

-- Tiles and vertices are exchanged.
abbrev pub dual : Table
dual = record {
  parts = 1;
  s0 = record { by = Some Two; to = 0 } ∷ [];
  s1 = record { by = Some One; to = 0 } ∷ [];
  s2 = record { by = Some Zero; to = 0 } ∷ [];
  face = OfVertex 1 ∷ [];
  degree = OfTile 1 ∷ [];
}

-- A vertex stands on each edge. Part 0 lies in a tile, part 1 at a vertex of the old tiling.
abbrev pub ambo : Table
ambo = record {
  parts = 2;
  s0 = record { by = Some One; to = 0 } ∷ record { by = Some One; to = 1 } ∷ [];
  s1 = record { by = Some Zero; to = 0 } ∷ record { by = Some Two; to = 1 } ∷ [];
  s2 = record { by = None; to = 1 } ∷ record { by = None; to = 0 } ∷ [];
  face = OfTile 1 ∷ OfVertex 1 ∷ [];
  degree = Fixed 4 ∷ Fixed 4 ∷ [];
}

-- Each vertex is cut off. Parts 0 and 1 lie in a tile, part 2 in what is cut off.
abbrev pub truncate : Table
truncate = record {
  parts = 3;
  s0 = record { by = Some Zero; to = 0 } ∷ record { by = Some One; to = 1 } ∷ record { by = Some One; to = 2 } ∷ [];
  s1 = record { by = None; to = 1 } ∷ record { by = None; to = 0 } ∷ record { by = Some Two; to = 2 } ∷ [];
  s2 = record { by = Some Two; to = 0 } ∷ record { by = None; to = 2 } ∷ record { by = None; to = 1 } ∷ [];
  face = OfTile 2 ∷ OfTile 2 ∷ OfVertex 1 ∷ [];
  degree = Fixed 3 ∷ Fixed 3 ∷ Fixed 3 ∷ [];
}

-- Each edge is made a hexagon. Part 0 lies in a tile, the others in the hexagon.
abbrev pub chamfer : Table
chamfer = record {
  parts = 4;
  s0 = record { by = Some Zero; to = 0 } ∷ record { by = Some Zero; to = 1 } ∷ record { by = None; to = 3 } ∷ record { by = None; to = 2 } ∷ [];
  s1 = record { by = Some One; to = 0 } ∷ record { by = None; to = 2 } ∷ record { by = None; to = 1 } ∷ record { by = Some Two; to = 3 } ∷ [];
  s2 = record { by = None; to = 1 } ∷ record { by = None; to = 0 } ∷ record { by = Some One; to = 2 } ∷ record { by = Some One; to = 3 } ∷ [];
  face = OfTile 1 ∷ Fixed 6 ∷ Fixed 6 ∷ Fixed 6 ∷ [];
  degree = Fixed 3 ∷ Fixed 3 ∷ Fixed 3 ∷ OfVertex 1 ∷ [];
}

-- the table of an operation
abbrev pub table_of_operation : Operation → Table
table_of_operation Ambo = ambo
table_of_operation Truncate = truncate
table_of_operation Chamfer = chamfer
