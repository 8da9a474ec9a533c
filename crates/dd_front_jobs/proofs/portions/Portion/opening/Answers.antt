use Rattle.std.proofs.lemmas.Result.{IfOk-weaker}
use Rattle.dd_front_jobs.proofs.PortionLaws.{whole_opening, shard_opening}
use Rattle.dd_front_jobs.proofs.portions.Portion.opening.Goals as goal

pub returns-in-Some : goal.returns-in-Some
returns-in-Some c = IfOk-weaker c.shard_opening.result _ _ (λ jobs is. shard_opening c.args.self.now c.in-Some.shard jobs.items c.in-Some.is is) c.shard_opening.ensures

pub returns-in-None : goal.returns-in-None
returns-in-None c = IfOk-weaker c.opening.result _ _ (λ jobs is. whole_opening c.args.self.now jobs.items c.in-None.is is) c.opening.ensures
