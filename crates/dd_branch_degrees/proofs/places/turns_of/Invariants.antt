use Rattle.dd_branch_degrees.specs.Place.{AreTurnsUpTo}
use Rattle.dd_branch_degrees.proofs.places.turns_of.Given as goal

abbrev pub invariant-loop-place : goal.invariant-loop-place
invariant-loop-place l = record {
  turns : AreTurnsUpTo l.places l.place-index l.turns.items;
}
