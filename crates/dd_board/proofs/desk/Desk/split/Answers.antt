use Rattle.std.proofs.Common.{◌+◌, ◌<◌, ◌^◌, subst, rules}
use Rattle.dd_front.specs.declared.event.Event.TheVariants.{Split}
use Rattle.dd_front.specs.Step.{taken_numbers}
use Rattle.dd_board.specs.Calls.{Books, BooksSplit, IsNumberWhere, MaySplitNow}
use Rattle.dd_board.proofs.Numbers.{may_split}
use Rattle.dd_board.proofs.desk.Desk.split.Goals as goal

pub book_split-requires-clause-allowed : goal.book_split-requires-clause-allowed
book_split-requires-clause-allowed g c =
    let v = c.args.self.now in
    let n = c.number_to_split-entry.result in
    let number = subst (λ js. IsNumberWhere (MaySplitNow v c.args.ticket.entry c.args.ticket.job js) c.args.ticket.entry n) c.as_slice.ensures.value c.number_to_split-entry.ensures.number in
    may_split v g.N.Naming.request c.args.ticket.entry n c.args.ticket.job c.args.jobs.items number c.number_to_split-entry.ensures.request c.requires

pub book_split-requires-clause-room : goal.book_split-requires-clause-room
book_split-requires-clause-room g c =
    subst (λ js. c.args.self.now.machine.next + taken_numbers c.number_to_split-entry.result js < 2 ^ 64) c.as_slice.ensures.value c.number_to_split-entry.ensures.room

pub returns-clause-books : goal.returns-clause-books
returns-clause-books g c =
    let v = c.args.self.now in
    let n = c.number_to_split-entry.result in
    let number : IsNumberWhere (MaySplitNow v c.args.ticket.entry c.args.ticket.job c.args.jobs.items) c.args.ticket.entry n =
    subst (λ js. IsNumberWhere (MaySplitNow v c.args.ticket.entry c.args.ticket.job js) c.args.ticket.entry n) c.as_slice.ensures.value c.number_to_split-entry.ensures.number in
    let whole : Books (Split c.args.worker n c.args.jobs.items) v c.book_split.new.self → BooksSplit c.args.worker c.args.ticket.entry c.args.ticket.job c.args.jobs.items v c.book_split.new.self =
    λ books. record { number = n; is = number; books = books } in
    search rules
