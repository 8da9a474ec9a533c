use Rattle.std.proofs.Common.{take}
use Rattle.dd_suite_commands.specs.InTurn.{AreInTurn}
use Rattle.dd_suite_commands.specs.Made.{IsMade}
use Rattle.dd_suite_commands.proofs.symbol_commands.each_made.Given as goal

abbrev pub invariant-loop-before : goal.invariant-loop-before
invariant-loop-before l = AreInTurn (IsMade l.command) (take l.before l.symbols) l.made.items
