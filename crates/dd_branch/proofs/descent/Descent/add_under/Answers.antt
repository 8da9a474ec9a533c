use Rattle.dd_model.specs.Wanted.{IsMember}
use Rattle.dd_branch_tables.specs.Stem.{size_of}
use Rattle.dd_branch_tables.proofs.Prefixes.{appends_none, none_under}
use Rattle.dd_front_jobs.specs.Under.{AreUnder}
use Rattle.dd_branch.proofs.Descents.{added_members}
use Rattle.dd_branch.proofs.descent.Descent.add_under.Goals as goal

pub returns-then-not-reach-clause-list : goal.returns-then-not-reach-clause-list
returns-then-not-reach-clause-list c =
    let old = c.args.self.now in
    appends_none (AreUnder (IsMember old.request) (size_of old.stem) c.args.prefix.now) c.args.list.now
    (none_under (IsMember old.request) (size_of old.stem) c.args.prefix.now c.if-not-reach.ensures.dead)

pub returns-clause-list : goal.returns-clause-list
returns-clause-list c =
    let old = c.args.self.now in
    let told = c.if-not-reach.ensures in
    added_members old.request (record { size = size_of old.stem; prefix = c.args.prefix.now }) c.reach.new.self c.args.list.now c.find.new.list told.request told.size told.prefix
    c.in_ok-find.ensures.list
