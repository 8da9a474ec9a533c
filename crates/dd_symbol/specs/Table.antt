-- Symbols as they are kept.
use Rattle.dd_model.specs.Symbol.{Symbol}
use Rattle.dd_symbol.specs.declared.code_table.CodeTable.{CodeTable}

-- what a table says of a tiling
abbrev pub symbol_of : CodeTable → Symbol
symbol_of t = t.involutions
