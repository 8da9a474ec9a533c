use Rattle.dd_branch.proofs.Descents.{found_members}
use Rattle.dd_branch.proofs.search.SearchFinder.find.Goals as goal

pub returns-clause-members : goal.returns-clause-members
returns-clause-members c =
    found_members c.args.self.now c.args.job.now c.new-list.result c.add_members.new.list c.new-list.ensures c.in_ok-add_members.ensures.list
