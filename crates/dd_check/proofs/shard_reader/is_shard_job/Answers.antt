use Rattle.std.proofs.Common.{◌*◌, min, arith}
use Rattle.dd_check.proofs.ShardReads.{first_numbers, listed_jobs}
use Rattle.dd_check.proofs.shard_reader.is_shard_job.Goals as goal

pub returns : goal.returns
returns c =
    listed_jobs c.args.q.now c.args.shard c.args.job.now c.is_listed.result c.deref.result.now c.in_ok-jobs.jobs.items _ c.deref.ensures.value
    (first_numbers _ (min (3 * c.args.job.now.size) 9) _ c.args.job.now.prefix (let least = c.min.ensures in let most = c.min-count.ensures in omega (arith, least, most)) c.as_slice-numbers.ensures)
    c.in_ok-jobs.ensures c.is_listed.ensures
