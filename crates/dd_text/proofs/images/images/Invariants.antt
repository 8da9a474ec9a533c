use Rattle.dd_text.proofs.ImageReads.{IsReadTo}
use Rattle.dd_text.proofs.images.images.Given as goal

abbrev pub invariant-loop-number : goal.invariant-loop-number
invariant-loop-number l = IsReadTo l.size l.list.numbers.items l.number-index l.known l.images.items
