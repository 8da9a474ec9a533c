use Rattle.dd_union_find.proofs.PartLemmas.{joined_one_more}
use Rattle.dd_union_find.proofs.forests.Forest.join_along.Goals as goal

pub loop-k-preserved : goal.loop-k-preserved
loop-k-preserved c =
    joined_one_more c.args.self.now c.loop-k.self c.join.new.self c.args.ones.now c.args.others.now c.loop-k.k c.loop-k.invariant c.join.ensures.joined
