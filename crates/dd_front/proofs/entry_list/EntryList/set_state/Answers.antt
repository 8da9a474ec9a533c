use Rattle.std.proofs.Common.{sym, ◌∙◌}
use Rattle.dd_front.proofs.Placed.{within}
use Rattle.dd_front.proofs.Replaced.{state_of_none}
use Rattle.dd_front.proofs.Kept.{state_there}
use Rattle.dd_front.proofs.entry_list.EntryList.set_state.Goals as goal

pub put_state-requires : goal.put_state-requires
put_state-requires c = within c.args.number c.args.self.now c.in-Some.place c.in-Some.ensures.place

pub returns-in-Some : goal.returns-in-Some
returns-in-Some c = c.put_state.ensures ∙ state_there c.args.number c.in-Some.place c.args.state c.args.self.now c.in-Some.ensures.numbers c.in-Some.ensures.place

pub returns-in_default : goal.returns-in_default
returns-in_default c = sym (state_of_none c.args.number c.args.state c.args.self.now c.in_default.ensures.place)
