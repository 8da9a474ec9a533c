use Rattle.dd_canon.specs.Symmetries.{AreSymmetriesOf}
use Rattle.dd_gram.specs.Form.{IsGramTo}
use Rattle.dd_gram.proofs.grams.gram.Given as goal

abbrev pub invariant-loop-k : goal.invariant-loop-k
invariant-loop-k l = record {
  of : AreSymmetriesOf l.fn.t l.symmetries;
  sum : IsGramTo l.fn.t l.k l.sum;
}
