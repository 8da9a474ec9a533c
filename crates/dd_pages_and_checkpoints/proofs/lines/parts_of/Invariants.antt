use Rattle.std.proofs.Common.{length}
use Rattle.dd_pages_and_checkpoints.proofs.LineParts.{IsCut}
use Rattle.dd_pages_and_checkpoints.proofs.lines.parts_of.Given as goal

-- what is left and the parts that were taken off its end are all members
abbrev pub invariant-loop-members : goal.invariant-loop-members
invariant-loop-members l = IsCut l.fn.before l.fn.members l.members l.parts.items

abbrev pub decreases-loop-members : goal.decreases-loop-members
decreases-loop-members l = length l.members
