use Rattle.std.proofs.Common.{◌+◌, take}
use Rattle.dd_text.specs.Writing.{AddsLines}
use Rattle.dd_text.specs.Outline.{IsOutlineOf}
use Rattle.dd_text.proofs.line_writer.append_lines.Given as goal

-- the lines of the symbols so far stand, and the outline is that of the last one
abbrev pub invariant-loop-connected : goal.invariant-loop-connected
invariant-loop-connected l = record {
  lines : AddsLines l.before (take l.connected-index l.symbols) l.initial.out.items l.out.items;
  outline : IsOutlineOf (l.before + l.connected-index) l.last l.outline;
}
