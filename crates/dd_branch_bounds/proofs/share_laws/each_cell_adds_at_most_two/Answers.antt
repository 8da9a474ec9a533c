use Rattle.dd_branch_bounds.proofs.CountBound.{count_bound_plain}
use Rattle.dd_branch_bounds.proofs.share_laws.each_cell_adds_at_most_two.Goals as goal

pub returns : goal.returns
returns _ s p cells whole is are = count_bound_plain s is p cells are whole
