use Rattle.dd_suite_commands.proofs.ShardTexts.{shards_not_refused, shards_text}
use Rattle.dd_suite_commands.proofs.shard_laws.texts_of_shards_merge_to_the_catalogue.Goals as goal

pub returns : goal.returns
returns c = record { refused = shards_not_refused; text = shards_text }
