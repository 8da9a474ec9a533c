use Rattle.dd_front.proofs.Holding.{held_first}
use Rattle.dd_front.proofs.laws.a_machine_is_held_at_its_opening.Goals as goal

pub returns : goal.returns
returns c = held_first
