use Rattle.dd_branch_tables.specs.Levels.{weight}
use Rattle.dd_branch_tables.proofs.Founds.{HasFound}
use Rattle.dd_branch_tables.proofs.collecting_search.find.Given as goal

abbrev pub invariant-loop-levels : goal.invariant-loop-levels
invariant-loop-levels g l =
    let T = g.T.PrefixSearch in
    HasFound T.laws l.fn.search l.fn.list l.search l.levels l.list

abbrev pub decreases-loop-levels : goal.decreases-loop-levels
decreases-loop-levels g l = weight l.levels
