use Rattle.dd_branch_tables.proofs.starts.Starts.any_beats.Given as goal

abbrev pub decreases-loop-woken : goal.decreases-loop-woken
decreases-loop-woken l = l.woken
