-- Two tables as one: the inner is done first, and the outer after it.
use Rattle.std.specs.Prelude.{ℕ, ◌+◌, ◌*◌, ◌/◌, ◌%◌, List, map, Option, Some, None}
use Rattle.dd_model.specs.Code.{count_from}
use Rattle.dd_model.specs.declared.index.Index.{Index}
use Rattle.dd_model.specs.declared.index.Index.TheVariants.{Zero, One, Two}
use Rattle.dd_model.specs.declared.pair.Pair.{Pair}
use Rattle.dd_model.specs.declared.pair.Pair.TheVariants.{Tile, Vertex}
use Rattle.dd_template.specs.declared.tables.Move.{Move}
use Rattle.dd_template.specs.declared.tables.Degree.{Degree}
use Rattle.dd_template.specs.declared.tables.Degree.TheVariants.{OfTile, OfVertex, Fixed}
use Rattle.dd_template.specs.Table.{Table, move, entry}
use Rattle.dd_template.specs.Entries.{entries}

-- The outer part x of the inner part y. Parts are counted from 0, and the outer parts of inner part 0 come first.
abbrev pub part_in : Table → ℕ → ℕ → ℕ
part_in outer y x = y * outer.parts + x

-- Where an outer move by an involution, or by none, leads from the inner part y: the inner part goes by the inner
-- move of the same index.
abbrev pub inner_move : Table → Table → ℕ → Option Index → ℕ → Move
inner_move outer inner y None to = record { by = None; to = part_in outer y to }
inner_move outer inner y (Some j) to = record { by = (move inner j y).by; to = part_in outer (move inner j y).to to }

-- an outer move from the inner part y
abbrev pub composed_move : Table → Table → ℕ → Move → Move
composed_move outer inner y m = inner_move outer inner y m.by m.to

-- c times a factor or a degree
abbrev pub times : ℕ → Degree → Degree
times c (OfTile d) = OfTile (c * d)
times c (OfVertex d) = OfVertex (c * d)
times c (Fixed m) = Fixed (c * m)

-- what a degree of the outer table is over the inner part y
abbrev pub composed_degree : Table → ℕ → Degree → Degree
composed_degree inner y (OfTile c) = times c (entry inner.face y)
composed_degree inner y (OfVertex c) = times c (entry inner.degree y)
composed_degree inner y (Fixed m) = Fixed m

-- what a function of inner and outer parts gives for each part
abbrev pub of_both : {A : Type 0} → Table → Table → (ℕ → ℕ → A) → List A
of_both outer inner f = map (λ z. f (z / outer.parts) (z % outer.parts)) (count_from 0 (inner.parts * outer.parts))

-- the moves by an involution
abbrev pub composed_moves : Table → Table → Index → List Move
composed_moves outer inner i = of_both outer inner (λ y x. composed_move outer inner y (move outer i x))

-- the entries that belong to tiles or to vertices
abbrev pub composed_entries : Table → Table → Pair → List Degree
composed_entries outer inner p = of_both outer inner (λ y x. composed_degree inner y (entry (entries outer p) x))

-- the table that does what the inner one does, and then what the outer one does
abbrev pub composed : Table → Table → Table
composed outer inner = record {
  parts = inner.parts * outer.parts;
  s0 = composed_moves outer inner Zero;
  s1 = composed_moves outer inner One;
  s2 = composed_moves outer inner Two;
  face = composed_entries outer inner Tile;
  degree = composed_entries outer inner Vertex;
}
