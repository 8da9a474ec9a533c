use Rattle.std.proofs.Common.{◌↔◌, IsTrue, sym, subst}
use Rattle.std.specs.Prelude.{IfOk}
use Rattle.dd_check.specs.ShardChecks.{IsShardPlace}
use Rattle.dd_check.proofs.shard_reader.is_shard_place.Goals as goal

pub returns-in-At : goal.returns-in-At
returns-in-At c = subst (λ at. IfOk c.is_shard_job.result (λ answer. IsTrue answer ↔ IsShardPlace c.args.q.now c.args.shard at)) (sym c.in-At.is) c.is_shard_job.ensures
