use Rattle.dd_canon.specs.Standing.{IsReady}
use Rattle.dd_canon.proofs.TieLemmas.{IsLeastFromFirst}
use Rattle.dd_canon.proofs.ties.is_least_from_ties.Given as goal

abbrev pub invariant-loop-k : goal.invariant-loop-k
invariant-loop-k l = record {
  ready : IsReady l.s l.visit;
  least : IsLeastFromFirst l.s l.starts l.k;
}
