use Rattle.std.proofs.Common.{sym, subst}
use Rattle.dd_suite_commands.specs.InTurn.{AreInTurn}
use Rattle.dd_suite_commands.specs.Made.{IsMade}
use Rattle.dd_suite_commands.proofs.InTurnLemmas.{in_turn_same}
use Rattle.dd_suite_commands.proofs.symbol_commands.made_of.Goals as goal

pub returns-in-Lines-clause-made : goal.returns-in-Lines-clause-made
returns-in-Lines-clause-made c =
    let ss = c.args.symbols.items in
    subst (λ command. AreInTurn (IsMade command) ss ss) (sym c.in-Lines.is) (in_turn_same ss)
