use Rattle.std.proofs.Common.{◌≡◌, take}
use Rattle.dd_invol.proofs.next_table.kept.Given as goal

abbrev pub invariant-loop-number : goal.invariant-loop-number
invariant-loop-number l = l.images.items ≡ take l.number-index l.numbers
