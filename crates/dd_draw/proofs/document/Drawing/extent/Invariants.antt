use Rattle.std.proofs.Common.{◌≡◌, ◌++◌, take}
use Rattle.std.specs.List.{flat_map}
use Rattle.dd_draw.specs.Spots.{corners, ends_of, start}
use Rattle.dd_draw.specs.Extents.{IsSmallExtent, box_at, covering}
use Rattle.dd_draw.proofs.document.Drawing.extent.Given as goal

abbrev pub invariant-loop-edge : goal.invariant-loop-edge
invariant-loop-edge l = record {
  same : l.extent ≡ covering (box_at start) (corners l.self.frame ++ flat_map (ends_of l.self.frame l.self.points.now) (take l.edge-index l.edge-items));
  small : IsSmallExtent l.extent;
}
