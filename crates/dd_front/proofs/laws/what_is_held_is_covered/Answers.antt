use Rattle.dd_front.proofs.Holding.{held_covered}
use Rattle.dd_front.proofs.laws.what_is_held_is_covered.Goals as goal

pub returns : goal.returns
returns c = held_covered
