use Rattle.dd_model.specs.Symbol.{item, op}
use Rattle.dd_symbol.specs.Rows.{HasRows}
use Rattle.dd_symbol.proofs.involutions.Involutions.renumbered.Given as goal

abbrev pub invariant-loop-k : goal.invariant-loop-k
invariant-loop-k l = HasRows (λ i e. item l.map (op l.self i (item l.back e))) l.k l.numbers
