use Rattle.dd_front.specs.declared.entry.State.TheVariants.{Out}
use Rattle.dd_front.proofs.Placed.{state_where, none_with}
use Rattle.dd_front.proofs.entry_list.EntryList.has_out.Goals as goal

pub returns-in-Some : goal.returns-in-Some
returns-in-Some c = state_where c.args.number c.args.self.now c.in-Some.entry.now Out c.is_out.result c.in-Some.ensures c.is_out.ensures

pub returns-in-None : goal.returns-in-None
returns-in-None c = ((λ wrong. absurd cc), (λ h. absurd (none_with c.args.number c.args.self.now Out h.0 c.in-None.ensures h.1)))
