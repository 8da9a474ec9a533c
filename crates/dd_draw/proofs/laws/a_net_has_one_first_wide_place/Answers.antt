use Rattle.dd_draw.proofs.PlaceOrder.{first_wide_unique}
use Rattle.dd_draw.proofs.laws.a_net_has_one_first_wide_place.Goals as goal

pub returns : goal.returns
returns c = first_wide_unique
