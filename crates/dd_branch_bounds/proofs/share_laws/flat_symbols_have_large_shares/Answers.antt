use Rattle.dd_branch_bounds.proofs.FlatBound.{share_bound_at}
use Rattle.dd_branch_bounds.proofs.share_laws.flat_symbols_have_large_shares.Goals as goal

pub returns : goal.returns
returns _ s whole tiles vertices is flat ts vs = share_bound_at s is flat whole tiles vertices ts vs
