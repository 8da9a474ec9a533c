use Rattle.dd_branch_tables.proofs.stem.Stem.is_beaten.Goals as goal

pub returns-in-Smaller : goal.returns-in-Smaller
returns-in-Smaller c _ = c.standing.ensures c.in-Smaller.is
