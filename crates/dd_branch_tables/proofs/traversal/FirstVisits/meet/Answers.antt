use Rattle.dd_canon.proofs.Meetings.{meeting_new}
use Rattle.dd_branch_tables.proofs.Traversing.{visit_of}
use Rattle.dd_branch_tables.proofs.traversal.FirstVisits.meet.Goals as goal

pub returns : goal.returns
returns c =
    rw (c.add.ensures.order, c.add.ensures.number, c.add.ensures.next)
    (meeting_new 36 c.args.self.now.order.items c.args.self.now.number c.args.chamber (visit_of c.args.self.now) c.requires.0 c.requires.1)
