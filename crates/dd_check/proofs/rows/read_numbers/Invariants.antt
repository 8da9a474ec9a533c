use Rattle.std.proofs.Common.{take}
use Rattle.std.specs.Prelude.{decimal}
use Rattle.dd_check.specs.Texts.{texts}
use Rattle.dd_check.specs.Numerals.{IsShort}
use Rattle.dd_check.proofs.SetReads.{TellsEach}
use Rattle.dd_check.proofs.rows.read_numbers.Given as goal

abbrev pub invariant-loop-word : goal.invariant-loop-word
invariant-loop-word l = TellsEach decimal IsShort (take l.word-index (texts l.words)) l.numbers.items
