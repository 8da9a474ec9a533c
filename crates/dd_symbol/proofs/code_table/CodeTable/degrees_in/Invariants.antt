use Rattle.std.specs.Prelude.{◌≡◌, map, take}
use Rattle.dd_model.specs.Symbol.{degree}
use Rattle.dd_symbol.specs.Table.{symbol_of}
use Rattle.dd_symbol.proofs.code_table.CodeTable.degrees_in.Given as goal

abbrev pub invariant-loop-k : goal.invariant-loop-k
invariant-loop-k l = l.degrees.items ≡ map (degree (symbol_of l.self) l.pair) (take l.k l.back)
