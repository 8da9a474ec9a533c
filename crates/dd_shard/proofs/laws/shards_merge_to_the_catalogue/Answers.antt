use Rattle.dd_shard.proofs.ShardsMerged.{shards_mergeable, merged_catalogue}
use Rattle.dd_shard.proofs.laws.shards_merge_to_the_catalogue.Goals as goal

pub returns : goal.returns
returns c = record { mergeable = shards_mergeable; merged = merged_catalogue }
