use Rattle.dd_board.proofs.Numbers.{may_finish}
use Rattle.dd_board.proofs.desk.Desk.finish.Goals as goal

pub book_finish-requires : goal.book_finish-requires
book_finish-requires g c =
    may_finish c.args.self.now.machine g.N.Naming.request c.args.ticket.entry c.number_of-entry.result c.args.ticket.job c.args.list c.number_of-entry.ensures.number
    c.number_of-entry.ensures.request c.requires
