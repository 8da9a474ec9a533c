use Rattle.dd_front_jobs.proofs.ShardLaws.{only_jobs, only_texts}
use Rattle.dd_front_jobs.proofs.laws.the_only_shard_is_the_whole.Goals as goal

pub returns-clause-jobs : goal.returns-clause-jobs
returns-clause-jobs c = only_jobs

pub returns-clause-text : goal.returns-clause-text
returns-clause-text c = only_texts
