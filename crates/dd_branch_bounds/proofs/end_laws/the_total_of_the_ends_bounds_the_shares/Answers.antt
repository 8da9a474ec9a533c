use Rattle.dd_branch_bounds.proofs.PassingTables.{total_bounds}
use Rattle.dd_branch_bounds.proofs.end_laws.the_total_of_the_ends_bounds_the_shares.Goals as goal

pub returns : goal.returns
returns c = total_bounds
