use Rattle.dd_branch_bounds.proofs.PassingTables.{paths_joined}
use Rattle.dd_branch_bounds.proofs.end_laws.joined_paths_have_one_share.Goals as goal

pub returns : goal.returns
returns c q P test p old new total more x y k v are = paths_joined q P test p old new total more are x y k v
