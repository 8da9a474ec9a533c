use Rattle.dd_steal_deques.specs.Hands.{hand_pushed}
use Rattle.dd_steal_deques.proofs.Changed.{same_sum}
use Rattle.dd_steal_deques.proofs.rack.Rack.close.Goals as goal

pub returns-clause-pushed : goal.returns-clause-pushed
returns-clause-pushed g c = same_sum hand_pushed _ _ c.join_all.ensures.pushed
