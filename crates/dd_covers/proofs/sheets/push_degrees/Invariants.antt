use Rattle.std.specs.Prelude.{◌≡◌, ◌++◌, map}
use Rattle.dd_model.specs.Symbol.{degree}
use Rattle.dd_model.specs.Code.{count_from}
use Rattle.dd_covers.proofs.sheets.push_degrees.Given as goal

abbrev pub invariant-loop-j : goal.invariant-loop-j
invariant-loop-j l = l.degrees.items ≡ l.fn.degrees.items ++ map (degree l.symbol l.pair) (count_from 1 l.j)
