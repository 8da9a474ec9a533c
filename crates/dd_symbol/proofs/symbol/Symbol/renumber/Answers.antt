use Rattle.dd_symbol.specs.Table.{symbol_of}
use Rattle.dd_symbol.proofs.RenumberLemmas.{small-along}
use Rattle.dd_symbol.proofs.TableLemmas.{table_lengths}
use Rattle.dd_symbol.proofs.symbol.Symbol.renumber.Goals as goal

pub invariant_of-result : goal.invariant_of-result
invariant_of-result c =
    small-along (symbol_of c.self.inside.table) (symbol_of c.in_ok-renumbered-in-Some.field-0) c.args.map.now c.self.invariant c.in_ok-renumbered-in-Some.ensures
    (table_lengths c.in_ok-renumbered-in-Some.field-0)

pub returns-clause-symbol : goal.returns-clause-symbol
returns-clause-symbol c =
    small-along (symbol_of c.self.inside.table) (symbol_of c.in_ok-renumbered-in-Some.field-0) c.args.map.now c.self.invariant c.in_ok-renumbered-in-Some.ensures
    (table_lengths c.in_ok-renumbered-in-Some.field-0)
