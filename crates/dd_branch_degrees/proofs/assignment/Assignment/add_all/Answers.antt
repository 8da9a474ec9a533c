use Rattle.dd_model.specs.Wanted.{IsMember}
use Rattle.dd_branch_tables.proofs.Prefixes.{appends_dead}
use Rattle.dd_branch_degrees.specs.Assignment.{prefix_of}
use Rattle.dd_branch_degrees.proofs.assignment.Assignment.add_all.Goals as goal

pub returns-in-None-clause-list : goal.returns-in-None-clause-list
returns-in-None-clause-list c =
    let a = c.args.self.now in
    appends_dead (IsMember a.request) a.table.size (prefix_of a) c.args.list.now (rw c.in-None.is at c.whole_budget.ensures.left)
