use Rattle.std.proofs.Common.{take}
use Rattle.dd_suite_commands.specs.Totals.{counted_in}
use Rattle.dd_suite_commands.proofs.InfoLemmas.{IsToldSoFar}
use Rattle.dd_suite_commands.proofs.info.info_of.Given as goal

abbrev pub invariant-loop-before : goal.invariant-loop-before
invariant-loop-before l = IsToldSoFar (take l.before l.symbols) l.text.items (counted_in l.totals)
