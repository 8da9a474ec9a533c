-- Files that hold the texts of shards.
use Rattle.std.specs.Prelude.{ℕ, List, [], ◌∷◌}
use Rattle.dd_model.specs.Text.{beginning}
use Rattle.dd_model.specs.declared.requests.Request.{Request}
use Rattle.dd_front_jobs.specs.Shards.{IsShardText}
use Rattle.dd_front_jobs.specs.declared.shards.Shard.{Shard}

-- each file is the whole text of a shard
abbrev pub AreTextsOfShards : Request → List Shard → List (List ℕ) → Type 0
AreTextsOfShards q [] [] = Unit {0}
AreTextsOfShards q [] (file ∷ files) = ⊥
AreTextsOfShards q (shard ∷ shards) [] = ⊥
AreTextsOfShards q (shard ∷ shards) (file ∷ files) = IsShardText q shard beginning 0 file × AreTextsOfShards q shards files
