-- Shards of a catalogue: what is under every so-manieth job of the opening.
use Rattle.std.specs.Prelude.{◌≡◌, ◌↔◌, ℕ, ◌+◌, ◌%◌, List, ◌∷◌, ◌++◌, length}
use Rattle.std.specs.List.{Contains}
use Rattle.dd_model.specs.Symbol.{Symbol}
use Rattle.dd_model.specs.Lists.{IsWithout}
use Rattle.dd_model.specs.Position.{IsBefore}
use Rattle.dd_model.specs.Wanted.{IsAscending}
use Rattle.dd_model.specs.Jobs.{AreAscendingJobs, IsMemberUnder}
use Rattle.dd_model.specs.Text.{AreLines}
use Rattle.dd_model.specs.declared.requests.Request.{Request}
use Rattle.dd_model.specs.declared.jobs.Job.{Job}
use Rattle.dd_model.specs.declared.jobs.Position.{Position}
use Rattle.dd_front_jobs.specs.declared.shards.Shard.{Shard}
use Rattle.dd_front_jobs.specs.Opening.{IsOpening}

-- the list has the job after these
pub record ComesAfter (jobs before : List Job) (job : Job) : Type 0 where
  pub after : List Job
  pub parts : jobs ≡ before ++ job ∷ after

-- a job of the opening, of which the number of jobs before it has the remainder of the shard
pub record IsShardJob (q : Request) (shard : Shard) (job : Job) : Type 0 where
  pub opening : List Job
  pub is_opening : IsOpening q opening
  pub before : List Job
  pub comes : ComesAfter opening before job
  pub remainder : length before % shard.count + 1 ≡ shard.index

-- all jobs of the shard, ascending
pub record IsShardOpening (q : Request) (shard : Shard) (jobs : List Job) : Type 0 where
  pub ascending : AreAscendingJobs jobs
  pub members : (job : Job) → Contains jobs job ↔ IsShardJob q shard job

-- a member of the catalogue that is under a job of the shard
pub record IsShardMember (q : Request) (shard : Shard) (s : Symbol) : Type 0 where
  pub job : Job
  pub of_shard : IsShardJob q shard job
  pub under : IsMemberUnder q job s

-- all members of the shard, ascending
pub record AreShardMembers (q : Request) (shard : Shard) (ss : List Symbol) : Type 0 where
  pub ascending : IsAscending ss
  pub members : (s : Symbol) → Contains ss s ↔ IsShardMember q shard s

-- the lines of the members of a shard that are not before a position, numbered from c + 1 on
pub record IsShardText (q : Request) (shard : Shard) (at : Position) (c : ℕ) (bytes : List ℕ) : Type 0 where
  pub members : List Symbol
  pub are_members : AreShardMembers q shard members
  pub later : List Symbol
  pub not_before : IsWithout (IsBefore at) members later
  pub lines : AreLines c later bytes
