use Rattle.std.proofs.Common.{◌≡◌, length}
use Rattle.std.specs.Vec.Iter.{into_iter_items, into_iter_len}
use Rattle.dd_pages_and_checkpoints.proofs.LineParts.{AreJoined}
use Rattle.dd_pages_and_checkpoints.proofs.lines.lines_by.Given as goal

-- the texts so far are the lines of all but the parts whose lines are left
abbrev pub invariant-loop-lines : goal.invariant-loop-lines
invariant-loop-lines g l =
    (into_iter_len l.lines-iterator ≡ length (into_iter_items l.lines-iterator))
    × AreJoined l.fn.before l.fn.members (into_iter_items l.lines-iterator) l.texts.items
