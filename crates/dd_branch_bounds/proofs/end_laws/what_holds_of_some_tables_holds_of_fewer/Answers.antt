use Rattle.dd_branch_bounds.proofs.PassingTables.{ends_of_fewer}
use Rattle.dd_branch_bounds.proofs.end_laws.what_holds_of_some_tables_holds_of_fewer.Goals as goal

pub returns : goal.returns
returns c = ends_of_fewer
