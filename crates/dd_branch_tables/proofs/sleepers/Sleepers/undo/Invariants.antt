use Rattle.std.proofs.Common.{length}
use Rattle.dd_branch_tables.proofs.sleepers.Sleepers.undo.Given as goal

abbrev pub decreases-loop-self : goal.decreases-loop-self
decreases-loop-self l = length l.self.trail.items
