use Rattle.dd_branch_bounds.proofs.PassingTables.{one_within, two_within, all_within}
use Rattle.dd_branch_bounds.proofs.end_laws.no_path_has_more_than_the_total.Goals as goal

pub returns-clause-one : goal.returns-clause-one
returns-clause-one c q P test p ends total x are = one_within q P test p ends total are x

pub returns-clause-two : goal.returns-clause-two
returns-clause-two c q P test p ends total x y are = two_within q P test p ends total are x y

pub returns-clause-all : goal.returns-clause-all
returns-clause-all c = all_within
