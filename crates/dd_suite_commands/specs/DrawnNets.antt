-- The drawing of a torus with its net.
use Rattle.std.specs.Prelude.{◌≡◌, ℕ, ◌≤◌, List, Option, ◌++◌}
use Rattle.dd_model.specs.declared.frame.Frame.{Frame}
use Rattle.dd_covers.specs.Torus.{IsTorus}
use Rattle.dd_lattice.specs.NetOf.{IsNet}
use Rattle.dd_draw.specs.Document.{document}
use Rattle.dd_draw.specs.Placement.{Point, IsPlacement}
use Rattle.dd_draw.specs.Width.{Place, IsPlaceOf, IsWideAt}
use Rattle.dd_suite_commands.specs.declared.drawings.TorusNet.{TorusNet}
use Rattle.dd_suite_commands.specs.Drawings.{IsCell}

-- a torus, and its net of at most 96 vertices
pub record IsDrawable (of : TorusNet) : Type 0 where
  pub torus : IsTorus of.torus
  pub net : IsNet of.torus of.net
  pub few : of.net.vertices ≤ 96

-- the old text, and the document of the net at its placement, of which no number is too wide
pub record AddsNetDrawing (shape : Option Frame) (of : TorusNet) (old new : List ℕ) : Type 0 where
  pub frame : Frame
  pub is_cell : IsCell shape of.torus frame
  pub narrow : (p : Place) → IsPlaceOf of.net p → ¬ IsWideAt of.net p
  pub points : List Point
  pub placed : IsPlacement of.net points
  pub text : new ≡ old ++ document frame of.net.edges.items points
