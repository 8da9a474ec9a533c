use Rattle.dd_model.proofs.Squares.{is_symbol, connected, flat, minimal, least, line}
use Rattle.dd_model.proofs.worked.squares_have_a_symbol.Goals as goal

pub returns : goal.returns
returns c = record { symbol = is_symbol; connected = connected; flat = flat; minimal = minimal; least = least; line = line }
