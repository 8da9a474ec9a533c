use Rattle.dd_check.proofs.Lone.{lone_meets}
use Rattle.dd_check.proofs.laws.a_lone_catalogue_meets_the_clauses.Goals as goal

pub returns : goal.returns
returns c = lone_meets
