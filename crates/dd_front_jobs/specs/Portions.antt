-- Portions: what a run is asked for.
use Rattle.std.specs.Prelude.{◌↔◌, ℕ, List, Option, None, Some}
use Rattle.std.specs.List.{Contains}
use Rattle.dd_model.specs.Symbol.{Symbol}
use Rattle.dd_model.specs.Jobs.{AreAscendingJobs}
use Rattle.dd_model.specs.Wanted.{IsMember, IsAscending}
use Rattle.dd_model.specs.Text.{IsText}
use Rattle.dd_model.specs.declared.requests.Request.{Request}
use Rattle.dd_model.specs.declared.jobs.Job.{Job}
use Rattle.dd_model.specs.declared.jobs.Position.{Position}
use Rattle.dd_front_jobs.specs.declared.shards.Shard.{Shard}
use Rattle.dd_front_jobs.specs.declared.portions.Portion.{Portion}
use Rattle.dd_front_jobs.specs.Opening.{IsOpeningJob}
use Rattle.dd_front_jobs.specs.Shards.{IsShardJob, IsShardMember, IsShardText}

-- the whole catalogue
abbrev pub whole : Request → Portion
whole q = record { request = q; shard = None }

-- a job of the opening, and of the shard if there is one
abbrev pub IsJobIn : Option Shard → Request → Job → Type 0
IsJobIn None q job = IsOpeningJob q job
IsJobIn (Some shard) q job = IsShardJob q shard job

abbrev pub IsPortionJob : Portion → Job → Type 0
IsPortionJob p job = IsJobIn p.shard p.request job

-- all jobs of a portion, ascending
pub record IsPortionOpening (p : Portion) (jobs : List Job) : Type 0 where
  pub ascending : AreAscendingJobs jobs
  pub members : (job : Job) → Contains jobs job ↔ IsPortionJob p job

-- a member of the catalogue, or of the shard if there is one
abbrev pub IsMemberIn : Option Shard → Request → Symbol → Type 0
IsMemberIn None q s = IsMember q s
IsMemberIn (Some shard) q s = IsShardMember q shard s

abbrev pub IsPortionMember : Portion → Symbol → Type 0
IsPortionMember p s = IsMemberIn p.shard p.request s

-- all members of a portion, ascending
pub record ArePortionMembers (p : Portion) (ss : List Symbol) : Type 0 where
  pub ascending : IsAscending ss
  pub members : (s : Symbol) → Contains ss s ↔ IsPortionMember p s

-- the text of the catalogue, or of the shard if there is one, from a position on, numbered from c + 1 on
abbrev pub IsTextIn : Option Shard → Request → Position → ℕ → List ℕ → Type 0
IsTextIn None q at c bytes = IsText q at c bytes
IsTextIn (Some shard) q at c bytes = IsShardText q shard at c bytes

abbrev pub IsPortionText : Portion → Position → ℕ → List ℕ → Type 0
IsPortionText p at c bytes = IsTextIn p.shard p.request at c bytes
