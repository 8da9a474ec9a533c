use Rattle.dd_front.proofs.ValidRequests.{valid_of}
use Rattle.dd_front.proofs.ticket.Ticket.job.Goals as goal

pub returns-clause-valid : goal.returns-clause-valid
returns-clause-valid g c = valid_of g.N.Naming.request c.args.self.now.valid
