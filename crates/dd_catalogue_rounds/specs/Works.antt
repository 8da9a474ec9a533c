-- What a run has to do: jobs that cover what is left of a portion.
use Rattle.std.specs.Prelude.{◌≡◌, ◌*◌, min, List, length}
use Rattle.std.specs.List.{Contains, AllByRecursion}
use Rattle.dd_model.specs.Symbol.{Symbol}
use Rattle.dd_model.specs.Position.{IsBefore, IsWhollyBefore}
use Rattle.dd_model.specs.Jobs.{AreAscendingJobs, AreApart}
use Rattle.dd_model.specs.Joined.{IsUnderOne}
use Rattle.dd_model.specs.declared.jobs.Job.{Job}
use Rattle.dd_model.specs.declared.jobs.Position.{Position}
use Rattle.dd_model.specs.declared.jobs.Position.TheVariants.{At, End}
use Rattle.dd_front_jobs.specs.declared.portions.Portion.{Portion}
use Rattle.dd_front_jobs.specs.Portions.{IsPortionMember}
use Rattle.dd_front.specs.Absorbed.{Extends}
use Rattle.dd_front.specs.Machine.{Machine, IsOpened}
use Rattle.dd_board.specs.Desk.{AreJobsOf}
use Rattle.dd_check.specs.ChainStarts.{Start}
use Rattle.dd_pages_and_checkpoints.specs.Rounds.{AreJobsFrom}

-- the job is a part of one of these, or one of them
pub record IsPartOfOne (jobs : List Job) (part : Job) : Type 0 where
  pub job : Job
  pub listed : Contains jobs job
  pub extends : Extends part job

-- one of these is a part of the job, or the job
pub record HasPart (parts : List Job) (job : Job) : Type 0 where
  pub part : Job
  pub listed : Contains parts part
  pub extends : Extends part job

-- Jobs to do from a position on, where large ones may be in parts. Each is a part of a job of the portion that is not wholly
-- before the position, and each of these jobs has a part.
pub record AreWork (p : Portion) (at : Position) (jobs : List Job) : Type 0 where
  pub whole : List Job
  pub from : AreJobsFrom p at whole
  pub extend : (c : Job) → Contains jobs c → IsPartOfOne whole c
  pub each : (job : Job) → Contains whole job → HasPart jobs job
  pub ascending : AreAscendingJobs jobs
  pub apart : AreApart jobs
  pub all : AreJobsOf p.request jobs

-- Jobs of the portion's request, in order, none of which is a part of another. What is under them is of the portion.
pub record AreWithin (p : Portion) (jobs : List Job) : Type 0 where
  pub members : (s : Symbol) → IsUnderOne p.request jobs s → IsPortionMember p s
  pub ascending : AreAscendingJobs jobs
  pub apart : AreApart jobs
  pub all : AreJobsOf p.request jobs

-- each member of the portion that is not before the position is under one of the jobs
abbrev pub CoverRest : Portion → Position → List Job → Type 0
CoverRest p at jobs = (s : Symbol) → IsPortionMember p s → (¬ IsBefore at s) → IsUnderOne p.request jobs s

-- jobs with which a run may begin at a position
pub record IsStarting (p : Portion) (at : Position) (jobs : List Job) : Type 0 where
  pub work : AreWork p at jobs
  pub covers : CoverRest p at jobs
  pub later : AllByRecursion (λ j. ¬ IsWhollyBefore at j) jobs

-- a machine of jobs that have what is left of the portion
pub record IsBegun (s : Start) (f : Machine) : Type 0 where
  pub jobs : List Job
  pub within : AreWithin s.portion jobs
  pub covers : CoverRest s.portion s.at jobs
  pub opened : IsOpened s.portion.request jobs s.at s.lines f

-- a machine of jobs with which a run may begin, which are whole in the first run of a chain
pub record IsStarted (s : Start) (f : Machine) : Type 0 where
  pub jobs : List Job
  pub starting : IsStarting s.portion s.at jobs
  pub whole : s.number ≡ 1 → AreJobsFrom s.portion s.at jobs
  pub opened : IsOpened s.portion.request jobs s.at s.lines f

-- the position is the end, or has as many numbers as the jobs of an opening
abbrev pub IsLongAsWhole : Position → Type 0
IsLongAsWhole End = Unit {0}
IsLongAsWhole (At job) = length job.prefix ≡ min (3 * job.size) 9
