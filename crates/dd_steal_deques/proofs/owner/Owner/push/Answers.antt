use Rattle.std.proofs.Common.{◌+◌, sym, ap}
use Rattle.dd_steal_deques.proofs.Rules.{gives}
use Rattle.dd_steal_deques.proofs.owner.Owner.push.Goals as goal

pub push_as-requires-clause-pushes : goal.push_as-requires-clause-pushes
push_as-requires-clause-pushes g c = gives (λ s. s.number) _ _ _ c.args.self.now.owns (ap (λ k. k + 1) (sym c.args.self.now.count))
