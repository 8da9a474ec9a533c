use Rattle.std.proofs.Common.{◌≡◌, subst}
use Rattle.dd_board.specs.Desk.{HaveJobsOf}
use Rattle.dd_board.proofs.Desks.{desk_request}
use Rattle.dd_board.proofs.JobsOf.{desk_jobs}
use Rattle.dd_board.proofs.desk.Desk.entries.Goals as goal

pub returns-clause-request : goal.returns-clause-request
returns-clause-request g c =
    subst (λ v. v.machine.request ≡ g.N.Naming.request) c.self.view_is (desk_request _ _ _ _ c.self.invariant)

pub returns-clause-jobs : goal.returns-clause-jobs
returns-clause-jobs g c =
    subst (λ v. HaveJobsOf g.N.Naming.request v.machine.entries) c.self.view_is (desk_jobs _ _ _ _ c.self.invariant)
