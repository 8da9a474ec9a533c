use Rattle.std.proofs.Common.{refl}
use Rattle.dd_branch_tables.proofs.RowsLemmas.{nothing_known, empty_ready}
use Rattle.dd_branch_tables.proofs.partial_table.PartialTable.empty.Goals as goal

pub invariant_of-result : goal.invariant_of-result
invariant_of-result c = empty_ready _ c.requires.0 c.requires.1 refl refl c.new-trail.ensures

pub returns-clause-ready : goal.returns-clause-ready
returns-clause-ready c = invariant_of-result c

pub returns-clause-nothing : goal.returns-clause-nothing
returns-clause-nothing c = nothing_known c.args.size
