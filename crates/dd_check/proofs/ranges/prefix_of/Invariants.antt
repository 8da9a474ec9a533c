use Rattle.std.proofs.Common.{◌≡◌, take}
use Rattle.dd_check.proofs.ranges.prefix_of.Given as goal

abbrev pub invariant-loop-number : goal.invariant-loop-number
invariant-loop-number l = l.bytes.items ≡ take l.number-index l.numbers
