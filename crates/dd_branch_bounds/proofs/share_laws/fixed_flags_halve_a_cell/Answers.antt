use Rattle.dd_branch_bounds.proofs.CountBound.{flags_of_cell, flagged_weight}
use Rattle.dd_branch_bounds.proofs.share_laws.fixed_flags_halve_a_cell.Goals as goal

pub returns-clause-flags : goal.returns-clause-flags
returns-clause-flags _ s p d members is h are = flags_of_cell s is p d members h are

pub returns-clause-weight : goal.returns-clause-weight
returns-clause-weight _ s p d members whole is h are = flagged_weight s is p whole d members h are
