use Rattle.dd_front.specs.declared.entry.State.TheVariants.{Open}
use Rattle.dd_front.proofs.Placed.{state_where, none_with}
use Rattle.dd_front.proofs.entry_list.EntryList.has_open.Goals as goal

pub returns-in-Some : goal.returns-in-Some
returns-in-Some c = state_where c.args.number c.args.self.now c.in-Some.entry.now Open c.is_open.result c.in-Some.ensures c.is_open.ensures

pub returns-in-None : goal.returns-in-None
returns-in-None c = ((λ wrong. absurd cc), (λ h. absurd (none_with c.args.number c.args.self.now Open h.0 c.in-None.ensures h.1)))
