-- The jobs with which a search begins.
use Rattle.std.specs.Prelude.{◌≡◌, ◌↔◌, ℕ, ◌*◌, ◌≤◌, min, List, length}
use Rattle.std.specs.List.{Contains}
use Rattle.dd_model.specs.Symbol.{Symbol}
use Rattle.dd_model.specs.Lists.{Begins}
use Rattle.dd_model.specs.Code.{code}
use Rattle.dd_model.specs.declared.requests.Request.{Request}
use Rattle.dd_model.specs.declared.jobs.Job.{Job}
use Rattle.dd_front_jobs.specs.FirstVisit.{IsFirstVisitPrefix}
use Rattle.dd_model.specs.Jobs.{AreAscendingJobs}

-- a first-visit prefix of exactly nine numbers, or of three times the size where that is less
pub record IsOpeningJob (q : Request) (job : Job) : Type 0 where
  pub size : (1 ≤ job.size) × (job.size ≤ q.chambers)
  pub numbers : length job.prefix ≡ min (3 * job.size) 9
  pub first_visit : IsFirstVisitPrefix job.size job.prefix

-- the opening of a request: all these jobs, ascending
pub record IsOpening (q : Request) (jobs : List Job) : Type 0 where
  pub ascending : AreAscendingJobs jobs
  pub members : (job : Job) → Contains jobs job ↔ IsOpeningJob q job

-- a first-visit prefix of so many numbers that begins with a shorter one
pub record IsJobUnder (n end : ℕ) (prefix : List ℕ) (job : Job) : Type 0 where
  pub size : job.size ≡ n
  pub numbers : length job.prefix ≡ end
  pub begins : Begins prefix job.prefix
  pub first_visit : IsFirstVisitPrefix n job.prefix

-- all of them, ascending
pub record AreJobsUnder (n end : ℕ) (prefix : List ℕ) (jobs : List Job) : Type 0 where
  pub ascending : AreAscendingJobs jobs
  pub members : (job : Job) → Contains jobs job ↔ IsJobUnder n end prefix job

-- some job of the opening has the size of a symbol and a prefix with which its code begins
pub record IsCoveredBy (q : Request) (s : Symbol) : Type 0 where
  pub job : Job
  pub opening : IsOpeningJob q job
  pub size : s.size ≡ job.size
  pub begins : Begins job.prefix (code s)
