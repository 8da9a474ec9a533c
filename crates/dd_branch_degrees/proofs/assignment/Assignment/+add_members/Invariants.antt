use Rattle.std.proofs.Common.{◌≡◌, ℕ, ◌*◌, ◌-◌, length}
use Rattle.std.specs.Int.{bit_at}
use Rattle.dd_branch_tables.specs.Growth.{HasGrown}
use Rattle.dd_branch_degrees.specs.Assignment.{HasLast}
use Rattle.dd_branch_degrees.proofs.Finishing.{HasTried}
use Rattle.dd_branch_degrees.proofs.assignment.Assignment.+add_members.Given as goal

abbrev pub decreases-add_members : goal.decreases-add_members
decreases-add_members l = 2 * l.self.now.table.size - length l.self.now.degrees.items

abbrev pub invariant-loop-fitting : goal.invariant-loop-fitting
invariant-loop-fitting l = record {
  same : l.self ≡ l.fn.self;
  left_over : (e : ℕ) → bit_at l.fitting e ≡ 1 → bit_at l.fn.fitting e ≡ 1;
  last : HasLast l.fn.self l.list;
  tried : HasTried l.fn.self l.fitting l.fn.list l.list;
  grown : HasGrown l.fn.list l.list;
}

abbrev pub decreases-loop-fitting : goal.decreases-loop-fitting
decreases-loop-fitting l = l.fitting
