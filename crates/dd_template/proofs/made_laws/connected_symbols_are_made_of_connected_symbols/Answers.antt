use Rattle.dd_template.proofs.MadeConnected.{made_connected}
use Rattle.dd_template.proofs.made_laws.connected_symbols_are_made_of_connected_symbols.Goals as goal

pub returns : goal.returns
returns c = made_connected
