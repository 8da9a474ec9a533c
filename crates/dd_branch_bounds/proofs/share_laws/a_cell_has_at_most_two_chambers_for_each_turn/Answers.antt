use Rattle.dd_branch_bounds.proofs.Rotation.{cell_bound, chain_bound}
use Rattle.dd_branch_bounds.proofs.share_laws.a_cell_has_at_most_two_chambers_for_each_turn.Goals as goal

pub returns-clause-cell : goal.returns-clause-cell
returns-clause-cell _ s p d es is h apart inside = cell_bound s is p d h es apart inside

pub returns-clause-chain : goal.returns-clause-chain
returns-clause-chain _ s p d es is h chain apart inside = chain_bound s is p d h chain es apart inside
