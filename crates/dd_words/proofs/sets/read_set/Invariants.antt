use Rattle.std.proofs.Common.{length, IsUtf8}
use Rattle.dd_words.proofs.Items.{IsSoFar}
use Rattle.dd_words.proofs.sets.read_set.Given as goal

abbrev pub invariant-loop-item : goal.invariant-loop-item
invariant-loop-item l = IsSoFar l.fn.word l.rest l.set × IsUtf8 l.rest

abbrev pub decreases-loop-item : goal.decreases-loop-item
decreases-loop-item l = length l.rest
