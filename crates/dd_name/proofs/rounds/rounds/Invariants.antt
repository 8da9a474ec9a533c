use Rattle.dd_name.specs.Marks.{AreTold}
use Rattle.dd_name.proofs.rounds.rounds.Given as goal

abbrev pub invariant-loop-place : goal.invariant-loop-place
invariant-loop-place l = AreTold l.s l.place l.marks.items l.rounds.items
