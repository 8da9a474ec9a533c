use Rattle.dd_steal_deques.specs.declared.slot.Slot.{Slot}
use Rattle.dd_steal_deques.proofs.Rules.{pops, finds}
use Rattle.dd_steal_deques.proofs.owner.Owner.pop.Goals as goal

pub pop_as-requires-clause-fifo : goal.pop_as-requires-clause-fifo
pop_as-requires-clause-fifo g c = λ _. pops (λ s. s.number) _ _ c.args.self.now.owns c.args.self.now.live

pub pop_as-requires-clause-empty : goal.pop_as-requires-clause-empty
pop_as-requires-clause-empty g c = finds (λ (s : Slot g.row.N.Denot g.N.Naming). s.number) _ _ c.args.self.now.owns
