use Rattle.dd_text.proofs.OutlineMade.{AreTold}
use Rattle.dd_text.proofs.outline.Outline.make.Given as goal

abbrev pub invariant-loop-k : goal.invariant-loop-k
invariant-loop-k l = AreTold l.symbol l.k l.initial.self l.self
