use Rattle.dd_quotient.proofs.DualLemmas.{small_symbol-dual, connected-dual}
use Rattle.dd_quotient.proofs.duals.duals_are_connected_symbols.Goals as goal

pub returns-clause-symbol : goal.returns-clause-symbol
returns-clause-symbol c = small_symbol-dual

pub returns-clause-connected : goal.returns-clause-connected
returns-clause-connected c = connected-dual
