use Rattle.dd_steal_deques.specs.declared.slot.Slot.{Slot}
use Rattle.dd_steal_deques.proofs.Rules.{begins}
use Rattle.dd_steal_deques.proofs.owner.Owner.open.Goals as goal

pub fifo_as-requires : goal.fifo_as-requires
fifo_as-requires g c = begins (λ (s : Slot g.row.N.Denot g.N.Naming). s.number)
