use Rattle.std.proofs.Common.{MatchOption, subst}
use Rattle.dd_model.specs.Code.{Least}
use Rattle.dd_canon.specs.Ties.{AreTies}
use Rattle.dd_branch_degrees.proofs.Beginnings.{none_without_ties}
use Rattle.dd_branch_degrees.proofs.members.add_members_of.Goals as goal

pub returns-in_default-clause-list : goal.returns-in_default-clause-list
returns-in_default-clause-list c =
    let table = c.symbol.result.now in
    let none = subst (λ f. MatchOption f (Least table → ⊥) (λ ties. AreTies table ties.items)) c.in_default.is c.in_ok-ties.ensures in
    none_without_ties c.args.q.now c.args.t c.args.list.now c.symbol.ensures.table (subst (λ t. Least t → ⊥) c.symbol.ensures.same none)
