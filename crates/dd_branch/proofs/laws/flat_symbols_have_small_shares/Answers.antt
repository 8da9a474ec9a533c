use Rattle.dd_branch.proofs.FlatShares.{small_shares}
use Rattle.dd_branch.proofs.laws.flat_symbols_have_small_shares.Goals as goal

pub returns : goal.returns
returns _ s whole tiles vertices is flat ts vs = small_shares s is flat whole tiles vertices ts vs
