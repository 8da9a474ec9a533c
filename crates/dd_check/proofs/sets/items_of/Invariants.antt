use Rattle.std.proofs.Common.{take}
use Rattle.dd_check.specs.Texts.{texts}
use Rattle.dd_check.specs.Sets.{item_text}
use Rattle.dd_check.specs.Rows.{IsShortItem}
use Rattle.dd_check.proofs.SetReads.{TellsEach}
use Rattle.dd_check.proofs.sets.items_of.Given as goal

abbrev pub invariant-loop-word : goal.invariant-loop-word
invariant-loop-word l = TellsEach item_text IsShortItem (take l.word-index (texts l.words)) l.items.items
