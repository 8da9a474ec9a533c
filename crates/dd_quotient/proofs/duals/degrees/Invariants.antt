use Rattle.std.specs.Prelude.{◌≡◌, map}
use Rattle.dd_model.specs.Symbol.{degree}
use Rattle.dd_model.specs.Code.{count_from}
use Rattle.dd_quotient.proofs.duals.degrees.Given as goal

abbrev pub invariant-loop-k : goal.invariant-loop-k
invariant-loop-k l = l.degrees.items ≡ map (degree l.s l.pair) (count_from 1 l.k)
