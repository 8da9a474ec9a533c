use Rattle.std.proofs.Common.{◌≡◌, length}
use Rattle.std.specs.Vec.Iter.{into_iter_items, into_iter_len}
use Rattle.dd_suite_commands.proofs.LinesInParts.{AreLinesSoFar}
use Rattle.dd_suite_commands.proofs.merged_lines.lines_by_parts.Given as goal

-- the text so far has the lines of all but the parts that are left
abbrev pub invariant-loop-lines : goal.invariant-loop-lines
invariant-loop-lines g l =
    (into_iter_len l.lines-iterator ≡ length (into_iter_items l.lines-iterator))
    × AreLinesSoFar l.fn.symbols l.size (into_iter_items l.lines-iterator) l.text.items
