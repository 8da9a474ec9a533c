use Rattle.dd_branch_tables.specs.Levels.{weight}
use Rattle.dd_invol.proofs.TableSearches.{IsSeeking}
use Rattle.dd_invol.proofs.table_search.TableSearch.seek.Given as goal

abbrev pub invariant-loop-self : goal.invariant-loop-self
invariant-loop-self l = IsSeeking l.fn.self l.self

abbrev pub decreases-loop-self : goal.decreases-loop-self
decreases-loop-self l = weight l.self.levels
