use Rattle.std.proofs.Common.{arith}
use Rattle.dd_front.specs.declared.event.Event.{Event}
use Rattle.dd_front.specs.declared.event.Event.TheVariants.{Back}
use Rattle.dd_board.specs.Ledgers.{is_take, is_look, is_split, is_finish, is_back}
use Rattle.dd_board.proofs.Totals.{total_more}
use Rattle.dd_board.proofs.counted.Counted.back.Goals as goal

pub invariant_of-self-2 : goal.invariant_of-self-2
invariant_of-self-2 g c =
    let booked = c.in-Ok.ensures.books in
    let log = booked.books.log in
    let call : Event = Back c.args.seat.now.worker booked.number in
    let before = c.self.invariant in (
      total_more is_take _ _ call _ _ log before.0 (omega arith),
      total_more is_look _ _ call _ _ log before.1 (omega arith),
      total_more is_split _ _ call _ _ log before.2 (omega arith),
      total_more is_finish _ _ call _ _ log before.3 (omega arith),
      total_more is_back _ _ call _ _ log before.4 c.add.ensures.total,
    )
