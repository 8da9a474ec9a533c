use Rattle.dd_front_jobs.proofs.ShardLaws.{some_shard, one_shard}
use Rattle.dd_front_jobs.proofs.laws.each_job_is_of_one_shard.Goals as goal

pub returns-clause-some : goal.returns-clause-some
returns-clause-some c = some_shard

pub returns-clause-one : goal.returns-clause-one
returns-clause-one c = one_shard
