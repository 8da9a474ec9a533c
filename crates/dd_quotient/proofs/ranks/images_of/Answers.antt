use Rattle.dd_quotient.proofs.RankLemmas.{leader_at}
use Rattle.dd_quotient.proofs.ranks.images_of.Goals as goal

pub op-requires : goal.op-requires
op-requires c = leader_at c.args.s.now c.args.leaders.now c.loop-leader.leader-index c.requires.chambers c.loop-leader-test.true
