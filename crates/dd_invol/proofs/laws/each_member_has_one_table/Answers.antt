use Rattle.dd_branch_tables.proofs.BareTables.{member_table, member_table_unique}
use Rattle.dd_invol.proofs.laws.each_member_has_one_table.Goals as goal

pub returns-clause-exists : goal.returns-clause-exists
returns-clause-exists c = member_table

pub returns-clause-unique : goal.returns-clause-unique
returns-clause-unique c = member_table_unique
