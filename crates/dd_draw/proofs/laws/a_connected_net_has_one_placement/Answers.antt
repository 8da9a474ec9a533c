use Rattle.dd_draw.proofs.Uniqueness.{placement_unique}
use Rattle.dd_draw.proofs.laws.a_connected_net_has_one_placement.Goals as goal

pub returns : goal.returns
returns c = placement_unique
