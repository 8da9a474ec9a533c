use Rattle.dd_branch_bounds.proofs.PassingTables.{chambers_alone}
use Rattle.dd_branch_bounds.proofs.end_laws.each_chamber_is_a_path_alone.Goals as goal

pub returns : goal.returns
returns c = chambers_alone
