use Rattle.std.proofs.Common.{◌-◌, length}
use Rattle.dd_branch_degrees.specs.Entered.{HasForced}
use Rattle.dd_branch_degrees.proofs.assignment.Assignment.force.Given as goal

abbrev pub invariant-loop-self : goal.invariant-loop-self
invariant-loop-self l = HasForced l.fn.self l.self

abbrev pub decreases-loop-self : goal.decreases-loop-self
decreases-loop-self l = length l.self.places.items - length l.self.degrees.items
