use Rattle.dd_branch_bounds.proofs.PassingTables.{path_closed}
use Rattle.dd_branch_bounds.proofs.end_laws.a_closed_path_has_the_share_of_its_cell.Goals as goal

pub returns : goal.returns
returns c q P test p old new total more x v are = path_closed q P test p old new total more are x v
