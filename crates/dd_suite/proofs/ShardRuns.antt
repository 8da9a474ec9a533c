-- What chains of shards have made are the texts of the shards.
use Rattle.std.proofs.Common.{ℕ, List, [], ◌∷◌, map}
use Rattle.dd_model.specs.Text.{beginning}
use Rattle.dd_model.specs.declared.requests.Request.{Request}
use Rattle.dd_front_jobs.specs.declared.shards.Shard.{Shard}
use Rattle.dd_front_jobs.specs.Shards.{IsShardText}
use Rattle.dd_check.specs.Calls.{Done}
use Rattle.dd_check.proofs.Chained.{chain_ends}
use Rattle.dd_suite_commands.specs.ShardFiles.{AreTextsOfShards}
use Rattle.dd_suite.specs.Chains.{call_of}
use Rattle.dd_suite.specs.ShardChains.{shard_of, IsMadeByCalls, AreMadeByCalls}
use Rattle.dd_suite.proofs.ProgramCalls.{all_meet}

text_of_one : (q : Request) (shard : Shard) (file : List ℕ) → IsMadeByCalls q shard file → IsShardText q shard beginning 0 file
text_of_one q shard file m =
    (chain_ends (shard_of q shard) m.name (map call_of m.calls) file Done m.chain (all_meet m.calls m.each) m.begun m.ends m.joined).end

pub made_texts : (q : Request) (shards : List Shard) (files : List (List ℕ)) → AreMadeByCalls q shards files → AreTextsOfShards q shards files
made_texts q [] [] made = tt
made_texts q [] (file ∷ files) made = absurd made
made_texts q (shard ∷ shards) [] made = absurd made
made_texts q (shard ∷ shards) (file ∷ files) made = (text_of_one q shard file made.0, made_texts q shards files made.1)
