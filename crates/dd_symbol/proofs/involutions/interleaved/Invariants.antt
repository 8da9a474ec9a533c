use Rattle.std.specs.Prelude.{[]}
use Rattle.dd_model.specs.Symbol.{op}
use Rattle.dd_symbol.specs.Building.{listed}
use Rattle.dd_symbol.specs.Rows.{HasRows}
use Rattle.dd_symbol.proofs.involutions.interleaved.Given as goal

abbrev pub invariant-loop-k : goal.invariant-loop-k
invariant-loop-k l = HasRows (op (listed l.lists.s0.now l.lists.s1.now l.lists.s2.now [] [])) l.k l.numbers
