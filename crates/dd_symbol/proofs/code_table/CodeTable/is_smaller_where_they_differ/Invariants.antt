use Rattle.std.proofs.Common.{◌↔◌}
use Rattle.dd_model.specs.Code.{code}
use Rattle.dd_model.proofs.SmallerPlaces.{SmallerFrom}
use Rattle.dd_symbol.specs.Table.{symbol_of}
use Rattle.dd_symbol.proofs.code_table.CodeTable.is_smaller_where_they_differ.Given as goal

abbrev pub invariant-loop-k : goal.invariant-loop-k
invariant-loop-k l = SmallerFrom 0 (code (symbol_of l.self)) l.others ↔ SmallerFrom l.k (code (symbol_of l.self)) l.others
