use Rattle.dd_branch_tables.proofs.Stems.{empty_stem}
use Rattle.dd_branch_tables.proofs.stem.Stem.new.Goals as goal

pub returns-clause-stem : goal.returns-clause-stem
returns-clause-stem c = empty_stem _ c.empty-rows.ensures.ready c.new-prefix.ensures c.empty-rows.ensures.nothing
