use Rattle.dd_steal_deques.specs.declared.slot.Slot.{Slot}
use Rattle.dd_steal_deques.proofs.Rules.{merges}
use Rattle.dd_steal_deques.proofs.owner.Owner.join.Goals as goal

pub absorb-requires-clause-rule : goal.absorb-requires-clause-rule
absorb-requires-clause-rule g c = merges (λ (s : Slot g.row.N.Denot g.N.Naming). s.number) _ _ _ _ c.args.self.now.owns c.args.way.guest c.args.way.live
