use Rattle.std.proofs.Common.{◌∷◌}
use Rattle.dd_branch_tables.specs.Levels.{weight}
use Rattle.dd_branch_tables.proofs.Advances.{HasCome}
use Rattle.dd_branch_tables.proofs.search_steps.advance.Given as goal

abbrev pub invariant-loop-number : goal.invariant-loop-number
invariant-loop-number g l =
    let T = g.T.PrefixSearch in
    HasCome T.laws l.fn.search l.fn.levels l.search (l.level ∷ l.levels)

abbrev pub decreases-loop-number : goal.decreases-loop-number
decreases-loop-number g l = weight (l.level ∷ l.levels)
