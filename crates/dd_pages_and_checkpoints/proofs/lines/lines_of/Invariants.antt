use Rattle.std.proofs.Common.{◌≡◌, ◌+◌, length, take}
use Rattle.dd_model.specs.Text.{AreLines}
use Rattle.dd_front.specs.Spans.{joined_spans}
use Rattle.dd_pages_and_checkpoints.proofs.lines.lines_of.Given as goal

-- the lines of the lists so far, and how many come before the next ones
abbrev pub invariant-loop-span : goal.invariant-loop-span
invariant-loop-span l =
    (l.before ≡ l.fn.part.before + length (joined_spans (take l.span-index l.span-items)))
    × AreLines l.fn.part.before (joined_spans (take l.span-index l.span-items)) l.lines.items
