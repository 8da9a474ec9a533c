use Rattle.dd_steal_deques.proofs.Rules.{takes}
use Rattle.dd_steal_deques.proofs.way.Way.steal.Goals as goal

pub steal_as-requires-clause-takes : goal.steal_as-requires-clause-takes
steal_as-requires-clause-takes g c = takes (λ s. s.number) _ _ c.loop.self.live
