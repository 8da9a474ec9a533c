use Rattle.std.proofs.Common.{◌-◌, length}
use Rattle.dd_branch_degrees.specs.Assignment.{IsAtRoot}
use Rattle.dd_branch_degrees.specs.Entered.{HasBudget, HasTold}
use Rattle.dd_branch_degrees.proofs.assignment.Assignment.go_down.Given as goal

abbrev pub invariant-loop-self : goal.invariant-loop-self
invariant-loop-self l = record {
  root : IsAtRoot l.self;
  told : HasTold l.fn.self l.self;
  budget : HasBudget l.self l.left;
}

abbrev pub decreases-loop-self : goal.decreases-loop-self
decreases-loop-self l = length l.self.places.items - length l.self.degrees.items
