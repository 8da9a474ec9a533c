use Rattle.dd_steal_deques.specs.declared.slot.Slot.{Slot}
use Rattle.dd_steal_deques.proofs.Rules.{forks}
use Rattle.dd_steal_deques.proofs.owner.Owner.way.Goals as goal

pub another-pass-requires : goal.another-pass-requires
another-pass-requires g c = forks (λ (s : Slot g.row.N.Denot g.N.Naming). s.number) _ _ c.args.self.now.owns
