use Rattle.dd_suite_commands.proofs.ShardTexts.{shards_not_refused, shards_text}
use Rattle.dd_suite.proofs.ShardRuns.{made_texts}
use Rattle.dd_suite.proofs.laws.finished_chains_of_all_shards_merge_to_the_catalogue.Goals as goal

pub returns : goal.returns
returns c = record {
  refused = λ q count shards files lists valid all made read. shards_not_refused q count shards files lists valid all (made_texts q shards files made) read;
  text = λ q opening count shards files lists valid is_opening some few all made read.
      shards_text q opening count shards files lists valid is_opening some few all (made_texts q shards files made) read;
}
