use Rattle.dd_front.proofs.Events.{held_next}
use Rattle.dd_front.proofs.laws.an_event_keeps_what_is_held.Goals as goal

pub returns : goal.returns
returns c = held_next
