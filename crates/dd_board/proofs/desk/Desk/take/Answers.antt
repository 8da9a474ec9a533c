use Rattle.std.proofs.Common.{subst, sym}
use Rattle.dd_model.specs.Jobs.{IsJobOf}
use Rattle.dd_board.proofs.Firsts.{may_take, may_look}
use Rattle.dd_board.proofs.desk.Desk.take.Goals as goal

pub book-requires-clause-allowed : goal.book-requires-clause-allowed
book-requires-clause-allowed g c = may_look c.args.self.now.machine c.args.worker c.in_default.ensures.first

pub book-requires-2-clause-allowed : goal.book-requires-2-clause-allowed
book-requires-2-clause-allowed g c = may_take c.args.self.now.machine c.args.worker c.in-Some.first.now c.in-Some.ensures.first

pub new-requires-clause-job_of : goal.new-requires-clause-job_of
new-requires-clause-job_of g c = subst (IsJobOf g.N.Naming.request) (sym c.in_ok-job.ensures) c.in-Some.ensures.job
