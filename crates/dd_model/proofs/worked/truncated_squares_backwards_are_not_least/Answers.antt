use Rattle.dd_model.proofs.TruncatedBackwards.{is_symbol, connected, flat, isomorphic, not_least}
use Rattle.dd_model.proofs.worked.truncated_squares_backwards_are_not_least.Goals as goal

pub returns : goal.returns
returns c = record { symbol = is_symbol; connected = connected; flat = flat; isomorphic = isomorphic; not_least = not_least }
