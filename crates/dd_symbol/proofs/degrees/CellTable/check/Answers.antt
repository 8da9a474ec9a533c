use Rattle.std.proofs.lemmas.Result.{on_ok_weaker}
use Rattle.std.proofs.Common.{arith}
use Rattle.dd_symbol.specs.Table.{symbol_of}
use Rattle.dd_symbol.proofs.TableLemmas.{table_lengths}
use Rattle.dd_symbol.proofs.DegreeLemmas.{small_symbol}
use Rattle.dd_symbol.proofs.degrees.CellTable.check.Goals as goal

pub returns-clause-symbol : goal.returns-clause-symbol
returns-clause-symbol c =
    let table = c.self.inside.table.now in
    let few = table.three.small in
    on_ok_weaker c.check_small-2.result
    (λ small. rw (← c.self.view_is)
    (small_symbol (symbol_of table) (table_lengths table) table.some (omega arith) c.self.invariant.table c.self.invariant.positive
    (rw c.self.view_is (c.in_ok-check_constant.ensures.constant, c.in_ok-check_constant-2.ensures.constant))
    (rw c.self.view_is (c.in_ok-check_multiples.ensures.multiples, c.in_ok-check_multiples-2.ensures.multiples))
    (rw c.self.view_is (c.in_ok-check_small.ensures.small, small))))
    c.check_small-2.ensures.small
