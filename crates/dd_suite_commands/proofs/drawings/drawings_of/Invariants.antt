use Rattle.std.proofs.Common.{take}
use Rattle.dd_suite_commands.specs.Drawings.{AreDrawings}
use Rattle.dd_suite_commands.proofs.drawings.drawings_of.Given as goal

abbrev pub invariant-loop-before : goal.invariant-loop-before
invariant-loop-before l = AreDrawings l.shape (take l.before l.symbols) l.text.items
