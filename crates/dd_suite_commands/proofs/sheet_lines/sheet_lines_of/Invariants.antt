use Rattle.std.proofs.Common.{take}
use Rattle.dd_suite_commands.specs.SheetLines.{AreSheetLines}
use Rattle.dd_suite_commands.proofs.sheet_lines.sheet_lines_of.Given as goal

abbrev pub invariant-loop-before : goal.invariant-loop-before
invariant-loop-before l = AreSheetLines 1 (take l.before l.symbols) l.text.items
