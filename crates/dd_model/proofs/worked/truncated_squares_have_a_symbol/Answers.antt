use Rattle.dd_model.proofs.Truncated.{is_symbol, connected, flat, minimal, least}
use Rattle.dd_model.proofs.TruncatedLines.{line}
use Rattle.dd_model.proofs.worked.truncated_squares_have_a_symbol.Goals as goal

pub returns : goal.returns
returns c = record { symbol = is_symbol; connected = connected; flat = flat; minimal = minimal; least = least; line = line }
