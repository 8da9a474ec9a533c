use Rattle.std.proofs.Common.{arith}
use Rattle.dd_steal_deques.specs.Hands.{hand_popped}
use Rattle.dd_steal.proofs.Held.{popped_held}
use Rattle.dd_steal.proofs.ticket_search.next_ticket.Goals as goal

pub returns-clause-tickets : goal.returns-clause-tickets
returns-clause-tickets g c =
    let first = rw c.in_default-2.is at c.in_ok-ticket.ensures.tickets in
    let look = rw c.in_default-3.is at c.in_ok-ticket-2.ensures in
    let stolen = c.in_default-steal_one.ensures in
    let last = popped_held c.pop-2.result (hand_popped c.steal_one.new.hand) (hand_popped c.pop-2.new.self) c.pop-2.ensures.popped in
    omega (
      arith,
      c.in_default.ensures.popped,
      c.pop.ensures.pushed,
      c.pop.ensures.stolen,
      first,
      c.in_default-steal_or_wait.ensures.stolen,
      c.steal_or_wait.ensures.popped,
      c.steal_or_wait.ensures.pushed,
      look.more_takes,
      look.more_splits,
      look.more_finishes,
      look.more_backs,
      stolen.stolen,
      c.steal_one.ensures.popped,
      c.steal_one.ensures.pushed,
      last,
      c.pop-2.ensures.pushed,
      c.pop-2.ensures.stolen,
    )
