use Rattle.std.proofs.Common.{◌≡◌, ◌++◌, take}
use Rattle.std.specs.Prelude.{string_bytes}
use Rattle.std.specs.List.{flat_map}
use Rattle.dd_draw.specs.Document.{vertex_text}
use Rattle.dd_draw.proofs.document.Drawing.put_vertices.Given as goal

abbrev pub invariant-loop-point : goal.invariant-loop-point
invariant-loop-point l = string_bytes l.text ≡ string_bytes l.initial.text ++ flat_map (vertex_text l.self.frame) (take l.point-index l.self.points.now)
