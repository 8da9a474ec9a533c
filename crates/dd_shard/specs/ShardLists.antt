-- The members of all shards of a catalogue, shard by shard.
use Rattle.std.specs.Prelude.{◌≡◌, ◌≢◌, ℕ, List, [], ◌∷◌}
use Rattle.std.specs.List.{AllByRecursion, Contains}
use Rattle.dd_model.specs.Symbol.{Symbol}
use Rattle.dd_model.specs.declared.requests.Request.{Request}
use Rattle.dd_front_jobs.specs.Shards.{AreShardMembers}
use Rattle.dd_front_jobs.specs.declared.shards.Shard.{Shard}

-- no shard is there twice
abbrev pub AreDifferent : List Shard → Type 0
AreDifferent [] = Unit {0}
AreDifferent (shard ∷ shards) = AllByRecursion (λ other. shard ≢ other) shards × AreDifferent shards

-- all shards of so many, each once, in any order
pub record AreAllShards (count : ℕ) (shards : List Shard) : Type 0 where
  pub counts : AllByRecursion (λ shard. shard.count ≡ count) shards
  pub all : (shard : Shard) → shard.count ≡ count → Contains shards shard
  pub different : AreDifferent shards

-- the members of each shard
abbrev pub AreListsOfShards : Request → List Shard → List (List Symbol) → Type 0
AreListsOfShards q [] [] = Unit {0}
AreListsOfShards q [] (list ∷ lists) = ⊥
AreListsOfShards q (shard ∷ shards) [] = ⊥
AreListsOfShards q (shard ∷ shards) (list ∷ lists) = AreShardMembers q shard list × AreListsOfShards q shards lists
