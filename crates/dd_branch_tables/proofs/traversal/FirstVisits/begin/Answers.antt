use Rattle.std.proofs.Common.{length, refl, ap}
use Rattle.dd_branch_tables.proofs.Traversing.{none_numbered, numbered_of, visit_none}
use Rattle.dd_branch_tables.proofs.traversal.FirstVisits.begin.Goals as goal

pub invariant_of-self : goal.invariant_of-self
invariant_of-self c = record { are_numbered = numbered_of _ _ (visit_none 36 _ _ c.new-self.ensures refl) }

pub add-requires-clause-none : goal.add-requires-clause-none
add-requires-clause-none c =
    none_numbered 36 _ _ c.args.start (visit_none 36 _ _ c.new-self.ensures refl) (ap length c.new-self.ensures) c.requires.0 c.requires.1
