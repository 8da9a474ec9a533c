-- Jobs: what a part of a catalogue is, and how a part is split.
use Rattle.std.specs.Prelude.{◌≡◌, ◌≢◌, ◌⊎◌, ◌↔◌, ℕ, ◌*◌, ◌<◌, ◌≤◌, List, [], ◌∷◌, ◌++◌, length}
use Rattle.std.specs.List.{AllByRecursion, Contains}
use Rattle.std.specs.Ordering.{nat_cmp, ordering_then}
use Rattle.std.specs.Cmp.Lexicographic.{slice_cmp}
use Rattle.std.specs.declared.cmp.Ordering.{Ordering}
use Rattle.std.specs.declared.cmp.Ordering.TheVariants.{Less}
use Rattle.dd_model.specs.Symbol.{Symbol}
use Rattle.dd_model.specs.Lists.{Begins}
use Rattle.dd_model.specs.Code.{code}
use Rattle.dd_model.specs.Wanted.{IsMember, IsAscending}
use Rattle.dd_model.specs.declared.requests.Request.{Request}
use Rattle.dd_model.specs.declared.jobs.Job.{Job}

-- by size, and then by prefix as in a dictionary
abbrev pub job_cmp : Job → Job → Ordering
job_cmp j k = ordering_then (nat_cmp j.size k.size) (slice_cmp nat_cmp j.prefix k.prefix)

-- j comes before k
abbrev pub IsJobBelow : Job → Job → Type 0
IsJobBelow j k = job_cmp j k ≡ Less

-- each is below all that follow it
abbrev pub AreAscendingJobs : List Job → Type 0
AreAscendingJobs [] = Unit {0}
AreAscendingJobs (j ∷ js) = AllByRecursion (IsJobBelow j) js × AreAscendingJobs js

-- where the sizes are equal, neither prefix begins the other
abbrev pub AreJobsApart : Job → Job → Type 0
AreJobsApart j k = j.size ≡ k.size → (¬ Begins j.prefix k.prefix) × (¬ Begins k.prefix j.prefix)

-- each is apart from all that follow it
abbrev pub AreApart : List Job → Type 0
AreApart [] = Unit {0}
AreApart (j ∷ js) = AllByRecursion (AreJobsApart j) js × AreApart js

-- the job with one number more at the end of its prefix
abbrev pub extended : Job → ℕ → Job
extended job k = record { size = job.size; prefix = job.prefix ++ k ∷ [] }

-- a member of the catalogue of the job's size whose code begins with its prefix
pub record IsMemberUnder (q : Request) (job : Job) (s : Symbol) : Type 0 where
  pub member : IsMember q s
  pub size : s.size ≡ job.size
  pub begins : Begins job.prefix (code s)

-- what is under a job: all these members, ascending
pub record AreMembersUnder (q : Request) (job : Job) (ss : List Symbol) : Type 0 where
  pub ascending : IsAscending ss
  pub members : (s : Symbol) → Contains ss s ↔ IsMemberUnder q job s

-- Some of the jobs with one number more, ascending. No member is under one that is left out.
pub record AreExtensions (q : Request) (job : Job) (jobs : List Job) : Type 0 where
  pub ascending : AreAscendingJobs jobs
  pub extend : (child : Job) → Contains jobs child → (k : ℕ) × (child ≡ extended job k)
  pub complete : (k : ℕ) → Contains jobs (extended job k) ⊎ ((s : Symbol) → IsMemberUnder q (extended job k) s → ⊥)

-- at least one of them, where the prefix has fewer numbers than a code has images
pub record AreChildren (q : Request) (job : Job) (jobs : List Job) : Type 0 where
  pub shorter : length job.prefix < 3 * job.size
  pub some : jobs ≢ []
  pub extensions : AreExtensions q job jobs

-- a job of a search for a request
pub record IsJobOf (q : Request) (job : Job) : Type 0 where
  pub positive : 1 ≤ job.size
  pub small : job.size ≤ q.chambers
  pub short : length job.prefix ≤ 3 * job.size
