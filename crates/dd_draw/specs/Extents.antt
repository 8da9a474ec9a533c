-- The box that spots lie in.
use Rattle.std.specs.Prelude.{◌+◌, ◌^◌, ◌≤◌, nat_abs, ◌≤ℤ◌, List, [], ◌∷◌}
use Rattle.std.specs.Int.{int_min, int_max}
use Rattle.dd_model.specs.declared.frame.Frame.{Frame}
use Rattle.dd_lattice.specs.declared.net_edge.NetEdge.{NetEdge}
use Rattle.dd_draw.specs.Spots.{start, printed}
use Rattle.dd_draw.specs.Placement.{Point}
use Rattle.dd_draw.specs.declared.spot.Spot.{Spot}
use Rattle.dd_draw.specs.declared.extent.Extent.{Extent}

-- the box of one spot
abbrev pub box_at : Spot → Extent
box_at s = record { left = s.x; top = s.y; right = s.x; bottom = s.y }

-- the least box that has a box and a spot
abbrev pub with_spot : Extent → Spot → Extent
with_spot e s = record { left = int_min e.left s.x; top = int_min e.top s.y; right = int_max e.right s.x; bottom = int_max e.bottom s.y }

-- the least box that has a box and some spots
abbrev pub covering : Extent → List Spot → Extent
covering e [] = e
covering e (s ∷ ss) = covering (with_spot e s) ss

-- the least box of all that is printed of the cell and of the edges
abbrev pub extent_of : Frame → List NetEdge → List Point → Extent
extent_of frame edges points = covering (box_at start) (printed frame edges points)

-- its numbers are in order, and have room
pub record IsSmallExtent (e : Extent) : Type 0 where
  pub left : nat_abs e.left ≤ 2 ^ 126 + 2 ^ 125 + 2 ^ 75
  pub top : nat_abs e.top ≤ 2 ^ 126 + 2 ^ 125 + 2 ^ 75
  pub right : nat_abs e.right ≤ 2 ^ 126 + 2 ^ 125 + 2 ^ 75
  pub bottom : nat_abs e.bottom ≤ 2 ^ 126 + 2 ^ 125 + 2 ^ 75
  pub along : e.left ≤ℤ e.right
  pub down : e.top ≤ℤ e.bottom
