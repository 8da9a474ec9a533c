-- Rows of moves that lead back.
use Rattle.std.proofs.Common.{◌≡◌, ◌↔◌, length, arith}
use Rattle.dd_model.specs.declared.index.Index.{Index}
use Rattle.dd_template.specs.Table.{Table, moves}
use Rattle.dd_template.specs.Moves.{RowLeadsBack, AreUndoneBy}

pub row_of_table : (t : Table) (i : Index) → length (moves t i) ≡ t.parts → RowLeadsBack (moves t i) ↔ AreUndoneBy t i
row_of_table t i size = (
  λ row x h. let u = row x (omega arith) in let part = u.part in record { part = omega arith; by = u.by; back = u.back },
  λ table x h. let u = table x (omega arith) in let part = u.part in record { part = omega arith; by = u.by; back = u.back },
)
