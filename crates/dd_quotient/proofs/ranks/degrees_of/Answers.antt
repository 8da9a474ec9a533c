use Rattle.dd_quotient.proofs.RankLemmas.{leader_at}
use Rattle.dd_quotient.proofs.ranks.degrees_of.Goals as goal

pub degree-requires : goal.degree-requires
degree-requires c = leader_at c.args.s.now c.args.leaders.now c.loop-leader.leader-index c.requires c.loop-leader-test.true
