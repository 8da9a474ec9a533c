use Rattle.dd_branch_bounds.proofs.EndGrowth.{kept_of_longer}
use Rattle.dd_branch_bounds.proofs.kept_laws.shares_stay_while_a_table_is_filled.Goals as goal

pub returns : goal.returns
returns _ old new shares size undone kept = kept_of_longer old new shares size undone kept
