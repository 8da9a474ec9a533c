-- What a partial table keeps.
use Rattle.dd_branch_tables.specs.Rows.{Rows}
use Rattle.dd_branch_tables.specs.declared.partial_table.PartialTable.TheInside.{Inside}

-- the rows that it keeps
abbrev pub rows_of : Inside → Rows
rows_of a = record { size = a.size; numbers = a.numbers; free = a.free; trail = a.trail.items }
