-- The drawing of a placed net as text.
use Rattle.std.specs.Prelude.{ℕ, pos, ◌+ℤ◌, ◌-ℤ◌, List, ◌++◌, codes}
use Rattle.std.specs.Fmt.{signed_decimal}
use Rattle.std.specs.List.{flat_map}
use Rattle.dd_cells.specs.declared.fractions.Fraction.{Fraction}
use Rattle.dd_model.specs.declared.frame.Frame.{Frame}
use Rattle.dd_lattice.specs.declared.net_edge.NetEdge.{NetEdge}
use Rattle.dd_draw.specs.Spots.{corners, spot_of, from_spot, to_spot}
use Rattle.dd_draw.specs.Extents.{extent_of}
use Rattle.dd_draw.specs.Placement.{Point}
use Rattle.dd_draw.specs.declared.spot.Spot.{Spot}
use Rattle.dd_draw.specs.declared.extent.Extent.{Extent}

-- a spot, by two numbers with a blank between them
abbrev pub spot_text : Spot → List ℕ
spot_text s = signed_decimal s.x ++ (codes " " ++ signed_decimal s.y)

-- the least numbers less a margin of 100, and the sides with both margins
abbrev pub view_text : Extent → List ℕ
view_text e =
    signed_decimal (e.left -ℤ pos 100) ++ (codes " " ++ (signed_decimal (e.top -ℤ pos 100) ++ (codes " " ++
    (signed_decimal ((e.right -ℤ e.left) +ℤ pos 200) ++ (codes " " ++ signed_decimal ((e.bottom -ℤ e.top) +ℤ pos 200))))))

abbrev pub head_text : Extent → List ℕ
head_text e = codes "<svg xmlns=\"http://www.w3.org/2000/svg\" viewBox=\"" ++ (view_text e ++ codes "\" fill=\"none\" stroke=\"black\" stroke-width=\"6\">\n")

-- a corner of the cell after the first
abbrev pub corner_text : Spot → List ℕ
corner_text s = codes "L" ++ spot_text s

-- the closed path from the start through the other corners
abbrev pub outline_text : List Spot → List ℕ
outline_text corners = codes "<path d=\"M0 0" ++ (flat_map corner_text corners ++ codes "Z\" stroke=\"silver\"/>\n")

-- the cell
abbrev pub cell_text : Frame → List ℕ
cell_text frame = outline_text (corners frame)

-- an edge, from the one end to the other
abbrev pub line_text : Spot → Spot → List ℕ
line_text from to = codes "<path d=\"M" ++ (spot_text from ++ (codes "L" ++ (spot_text to ++ codes "\"/>\n")))

abbrev pub edge_text : Frame → List Point → NetEdge → List ℕ
edge_text frame points e = line_text (from_spot frame points e) (to_spot frame points e)

-- a fraction, also where it is whole
abbrev pub exact_text : Fraction → List ℕ
exact_text f = signed_decimal f.num ++ (codes "/" ++ signed_decimal f.den)

-- a vertex: where it is printed, and its exact coordinates
abbrev pub middle_text : Spot → List ℕ
middle_text s = codes "<circle cx=\"" ++ (signed_decimal s.x ++ (codes "\" cy=\"" ++ (signed_decimal s.y ++ codes "\" r=\"12\" data-at=\"")))

abbrev pub circle_text : Spot → Point → List ℕ
circle_text s p = middle_text s ++ (exact_text p.x ++ (codes " " ++ (exact_text p.y ++ codes "\"/>\n")))

abbrev pub vertex_text : Frame → Point → List ℕ
vertex_text frame p = circle_text (spot_of frame p) p

-- the head, the cell, the edges and the vertices in their order
abbrev pub document : Frame → List NetEdge → List Point → List ℕ
document frame edges points =
    head_text (extent_of frame edges points) ++ (cell_text frame ++ (flat_map (edge_text frame points) edges ++ (flat_map (vertex_text frame) points ++ codes "</svg>\n")))
