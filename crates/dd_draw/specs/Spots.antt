-- Where points are printed: whole numbers, a thousand of which are the side of a cell.
use Rattle.std.specs.Prelude.{◌+◌, ◌^◌, ◌≤◌, nat_abs, ℤ, pos, ◌+ℤ◌, ◌*ℤ◌, List, [], ◌∷◌, ◌++◌}
use Rattle.std.specs.Int.{int_div_euclid}
use Rattle.std.specs.List.{flat_map}
use Rattle.dd_cells.specs.declared.fractions.Fraction.{Fraction}
use Rattle.dd_model.specs.declared.frame.Frame.{Frame}
use Rattle.dd_model.specs.declared.frame.Frame.TheVariants.{Square, Hex, Own}
use Rattle.dd_lattice.specs.declared.net_edge.NetEdge.{NetEdge}
use Rattle.dd_draw.specs.Placement.{Point, point_of}
use Rattle.dd_draw.specs.declared.spot.Spot.{Spot}

-- the greatest whole number that is not over k times a fraction
abbrev pub floor_of : ℤ → Fraction → ℤ
floor_of k f = int_div_euclid (k *ℤ f.num) f.den

-- The first side of a cell goes 1000 along. The second side leans over that far, and rises that far.
abbrev pub lean : Frame → ℤ
lean Square = pos 0
lean Hex = pos 500
lean (Own p q) = p

abbrev pub rise : Frame → ℤ
rise Square = pos 1000
rise Hex = pos 866
rise (Own p q) = q

-- the spot of a point
abbrev pub spot_of : Frame → Point → Spot
spot_of frame p = record { x = floor_of (pos 1000) p.x +ℤ floor_of (lean frame) p.y; y = floor_of (rise frame) p.y }

-- a spot moved by whole cells
abbrev pub moved : Frame → Spot → ℤ → ℤ → Spot
moved frame s x y = record { x = s.x +ℤ (pos 1000 *ℤ x +ℤ lean frame *ℤ y); y = s.y +ℤ rise frame *ℤ y }

abbrev pub start : Spot
start = record { x = pos 0; y = pos 0 }

-- the corners of the cell after the first, which is at the start
abbrev pub corners : Frame → List Spot
corners frame =
    record { x = pos 1000; y = pos 0 } ∷ record { x = pos 1000 +ℤ lean frame; y = rise frame } ∷ record { x = lean frame; y = rise frame } ∷ []

-- the two ends of an edge: the vertex that it comes from, and the one that it goes to, moved by the shift
abbrev pub from_spot : Frame → List Point → NetEdge → Spot
from_spot frame points e = spot_of frame (point_of points e.from)

abbrev pub to_spot : Frame → List Point → NetEdge → Spot
to_spot frame points e = moved frame (spot_of frame (point_of points e.to)) e.x e.y

abbrev pub ends_of : Frame → List Point → NetEdge → List Spot
ends_of frame points e = from_spot frame points e ∷ to_spot frame points e ∷ []

-- all that is printed of the cell and of the edges
abbrev pub printed : Frame → List NetEdge → List Point → List Spot
printed frame edges points = corners frame ++ flat_map (ends_of frame points) edges

-- a spot whose numbers have room
pub record IsSmallSpot (s : Spot) : Type 0 where
  pub x : nat_abs s.x ≤ 2 ^ 126 + 2 ^ 125 + 2 ^ 75
  pub y : nat_abs s.y ≤ 2 ^ 126 + 2 ^ 125 + 2 ^ 75
