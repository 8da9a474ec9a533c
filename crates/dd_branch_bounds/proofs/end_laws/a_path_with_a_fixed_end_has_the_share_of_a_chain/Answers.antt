use Rattle.dd_branch_bounds.proofs.PassingTables.{path_fixed}
use Rattle.dd_branch_bounds.proofs.end_laws.a_path_with_a_fixed_end_has_the_share_of_a_chain.Goals as goal

pub returns : goal.returns
returns c q P test p old new total more x k v are = path_fixed q P test p old new total more are x k v
