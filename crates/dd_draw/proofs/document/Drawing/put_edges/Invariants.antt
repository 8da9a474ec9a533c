use Rattle.std.proofs.Common.{◌≡◌, ◌++◌, take}
use Rattle.std.specs.Prelude.{string_bytes}
use Rattle.std.specs.List.{flat_map}
use Rattle.dd_draw.specs.Document.{edge_text}
use Rattle.dd_draw.proofs.document.Drawing.put_edges.Given as goal

abbrev pub invariant-loop-edge : goal.invariant-loop-edge
invariant-loop-edge l = string_bytes l.text ≡ string_bytes l.initial.text ++ flat_map (edge_text l.self.frame l.self.points.now) (take l.edge-index l.edge-items)
