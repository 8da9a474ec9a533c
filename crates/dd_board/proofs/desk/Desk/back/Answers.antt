use Rattle.dd_board.proofs.Numbers.{may_go_back}
use Rattle.dd_board.proofs.desk.Desk.back.Goals as goal

pub book-requires-clause-allowed : goal.book-requires-clause-allowed
book-requires-clause-allowed g c = may_go_back c.args.self.now.machine c.args.entry c.number_out-entry.result c.number_out-entry.ensures
