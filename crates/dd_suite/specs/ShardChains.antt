-- Shards that calls of the program have made.
use Rattle.std.specs.Prelude.{ℕ, List, [], ◌∷◌, Option, Some, map}
use Rattle.std.specs.List.{AllByRecursion}
use Rattle.dd_model.specs.declared.requests.Request.{Request}
use Rattle.dd_front_jobs.specs.declared.shards.Shard.{Shard}
use Rattle.dd_front_jobs.specs.declared.portions.Portion.{Portion}
use Rattle.dd_check.specs.Calls.{Done}
use Rattle.dd_check.specs.Chains.{IsChain, HasBegun, EndsAs, IsJoined}
use Rattle.dd_suite.specs.Chains.{ProgramCall, IsProgramCall, call_of}

-- a shard of a request
abbrev pub shard_of : Request → Shard → Portion
shard_of q shard = record { request = q; shard = Some shard }

-- a chain of calls that has begun and come to its end has written the file together
pub record IsMadeByCalls (q : Request) (shard : Shard) (file : List ℕ) : Type 0 where
  pub name : Option (List ℕ)
  pub calls : List ProgramCall
  pub each : AllByRecursion IsProgramCall calls
  pub chain : IsChain (shard_of q shard) name (map call_of calls)
  pub begun : HasBegun (map call_of calls)
  pub ends : EndsAs (map call_of calls) Done
  pub joined : IsJoined (map call_of calls) file

-- each file was made so for one of the shards
abbrev pub AreMadeByCalls : Request → List Shard → List (List ℕ) → Type 0
AreMadeByCalls q [] [] = Unit {0}
AreMadeByCalls q [] (file ∷ files) = ⊥
AreMadeByCalls q (shard ∷ shards) [] = ⊥
AreMadeByCalls q (shard ∷ shards) (file ∷ files) = IsMadeByCalls q shard file × AreMadeByCalls q shards files
