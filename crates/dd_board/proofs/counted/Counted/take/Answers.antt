use Rattle.std.proofs.Common.{arith}
use Rattle.dd_front.specs.declared.event.Event.{Event}
use Rattle.dd_front.specs.declared.event.Event.TheVariants.{Take, Look}
use Rattle.dd_board.specs.Calls.{TakesFirst, TakesNone}
use Rattle.dd_board.specs.Ledgers.{is_take, is_look, is_split, is_finish, is_back}
use Rattle.dd_board.proofs.Totals.{total_more}
use Rattle.dd_board.proofs.counted.Counted.take.Goals as goal

pub invariant_of-self-in-Job : goal.invariant_of-self-in-Job
invariant_of-self-in-Job g c =
    let ticket = c.in-Job.field-0 in
    let takes : TakesFirst c.args.seat.now.worker ticket.entry ticket.job c.self.inside.desk c.take.new.self = rw c.in-Job.is at c.in_ok-taken.ensures.takes in
    let log = takes.books.log in
    let call : Event = Take c.args.seat.now.worker ticket.entry in
    let before = c.self.invariant in (
      total_more is_take _ _ call _ _ log before.0 c.add.ensures.total,
      total_more is_look _ _ call _ _ log before.1 (omega arith),
      total_more is_split _ _ call _ _ log before.2 (omega arith),
      total_more is_finish _ _ call _ _ log before.3 (omega arith),
      total_more is_back _ _ call _ _ log before.4 (omega arith),
    )

pub invariant_of-self-in-Idle : goal.invariant_of-self-in-Idle
invariant_of-self-in-Idle g c =
    let takes : TakesNone c.args.seat.now.worker c.self.inside.desk c.take.new.self = rw c.in-Idle.is at c.in_ok-taken.ensures.takes in
    let log = takes.books.log in
    let call : Event = Look c.args.seat.now.worker in
    let before = c.self.invariant in (
      total_more is_take _ _ call _ _ log before.0 (omega arith),
      total_more is_look _ _ call _ _ log before.1 c.add-in-Idle.ensures.total,
      total_more is_split _ _ call _ _ log before.2 (omega arith),
      total_more is_finish _ _ call _ _ log before.3 (omega arith),
      total_more is_back _ _ call _ _ log before.4 (omega arith),
    )
