-- The two numbers of a shard.
use Rattle.std.specs.Prelude.{◌≡◌, ℕ, ◌≤◌}
use Rattle.dd_front_jobs.specs.declared.shards.Shard.{Shard}

-- there is a shard of these numbers
abbrev pub AreShardNumbers : ℕ → ℕ → Type 0
AreShardNumbers index count = (1 ≤ index) × (index ≤ count) × (count ≤ 8)

-- the shard has these numbers
pub record HasNumbers (shard : Shard) (index count : ℕ) : Type 0 where
  pub index_is : shard.index ≡ index
  pub count_is : shard.count ≡ count
