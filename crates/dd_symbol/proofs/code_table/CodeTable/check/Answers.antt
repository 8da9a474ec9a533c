use Rattle.std.proofs.lemmas.Result.{on_ok_weaker}
use Rattle.dd_symbol.proofs.code_table.CodeTable.check.Goals as goal

pub returns-clause-connected : goal.returns-clause-connected
returns-clause-connected c = on_ok_weaker c.check_degrees.result (λ _. c.in_ok-check_involutions.ensures.connected.connected) c.check_degrees.ensures.symbol
