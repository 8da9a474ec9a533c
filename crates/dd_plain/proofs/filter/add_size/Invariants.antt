use Rattle.dd_plain.specs.Adds.{Adds}
use Rattle.dd_plain.proofs.LevelLemmas.{HasImagesBelow}
use Rattle.dd_plain.proofs.filter.add_size.Given as goal

abbrev pub invariant-loop-number : goal.invariant-loop-number
invariant-loop-number l = Adds l.q (HasImagesBelow l.size l.lists l.number) l.fn.list l.list
