use Rattle.std.proofs.Common.{◌≡◌, subst}
use Rattle.dd_board.proofs.Desks.{desk_request}
use Rattle.dd_board.proofs.desk.Desk.number_of.Goals as goal

pub returns-then-has_out_with-clause-request : goal.returns-then-has_out_with-clause-request
returns-then-has_out_with-clause-request g c =
    subst (λ v. v.machine.request ≡ g.N.Naming.request) c.self.view_is (desk_request _ _ _ _ c.self.invariant)

pub returns-else-has_out_with-clause-request : goal.returns-else-has_out_with-clause-request
returns-else-has_out_with-clause-request g c =
    subst (λ v. v.machine.request ≡ g.N.Naming.request) c.self.view_is (desk_request _ _ _ _ c.self.invariant)
