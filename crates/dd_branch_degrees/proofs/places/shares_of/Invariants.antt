use Rattle.dd_branch_degrees.proofs.Choices.{AreSharesBelow}
use Rattle.dd_branch_degrees.proofs.places.shares_of.Given as goal

abbrev pub invariant-loop-value : goal.invariant-loop-value
invariant-loop-value l = record {
  below : AreSharesBelow l.set l.turns l.sides l.shares l.value;
}
