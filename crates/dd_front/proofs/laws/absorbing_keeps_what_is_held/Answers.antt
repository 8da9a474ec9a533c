use Rattle.dd_front.proofs.Absorbing.{held_absorbed}
use Rattle.dd_front.proofs.laws.absorbing_keeps_what_is_held.Goals as goal

pub returns : goal.returns
returns c = held_absorbed
