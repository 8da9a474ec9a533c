use Rattle.dd_canon.specs.Standing.{IsReady}
use Rattle.dd_canon.specs.Ties.{AreTiesTo}
use Rattle.dd_canon.proofs.ties.tied_starts.Given as goal

abbrev pub invariant-loop-k : goal.invariant-loop-k
invariant-loop-k l = record {
  ready : IsReady l.s l.visit;
  ties : AreTiesTo l.s l.k l.ties.items;
}
