use Rattle.std.proofs.Common.{refl}
use Rattle.dd_branch_tables.proofs.Traversing.{numbered_of, visit_none}
use Rattle.dd_branch_tables.proofs.traversal.FirstVisits.new.Goals as goal

pub invariant_of-result : goal.invariant_of-result
invariant_of-result c = record { are_numbered = numbered_of _ _ (visit_none 36 _ _ c.new-order.ensures refl) }
