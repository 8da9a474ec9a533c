use Rattle.std.proofs.Common.{◌++◌}
use Rattle.dd_pages_and_checkpoints.proofs.PageLemmas.{front_kept, front_of_more}
use Rattle.dd_pages_and_checkpoints.proofs.pages.Page.add.Goals as goal

pub returns-in_default-clause-front : goal.returns-in_default-clause-front
returns-in_default-clause-front g c k base start ss has =
    let held = g.O.Sink.held c.args.out.now in
    front_of_more k base start held ss c.args.members (front_kept k base start held c.args.self.now ss has)

pub returns-then-self-lt-BATCH-clause-front : goal.returns-then-self-lt-BATCH-clause-front
returns-then-self-lt-BATCH-clause-front g c k base start ss has =
    let held = g.O.Sink.held c.args.out.now in
    front_of_more k base start held ss c.args.members (front_kept k base start held c.args.self.now ss has)

pub returns-clause-front : goal.returns-clause-front
returns-clause-front g c k base start ss has = c.render.ensures.front k base start (ss ++ c.args.members) (c.in-Ok.ensures.lines (g.O.Sink.held c.args.out.now) k base start ss has)
