use Rattle.dd_board.proofs.Desks.{desk_held}
use Rattle.dd_board.proofs.Firsts.{found_of, found_numbered}
use Rattle.dd_board.proofs.JobsOf.{desk_jobs}
use Rattle.dd_board.proofs.desk.Desk.first_open.Goals as goal

pub returns-clause-job : goal.returns-clause-job
returns-clause-job g c =
    found_of g.N.Naming.request (λ entry. entry.now) c.self.inside.front.entries c.first_open.result (desk_jobs _ _ _ _ c.self.invariant) c.first_open.ensures

pub returns-clause-number : goal.returns-clause-number
returns-clause-number g c =
    found_numbered c.self.inside.front.next (λ entry. entry.now) c.self.inside.front.entries c.first_open.result (desk_held _ _ _ _ c.self.invariant).numbered c.first_open.ensures

pub returns-clause-valid : goal.returns-clause-valid
returns-clause-valid g c = c.self.invariant.valid
