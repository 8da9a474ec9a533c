-- What a desk shows, and what holds of it at all times.
use Rattle.std.specs.Prelude.{◌≡◌, List, [], ◌∷◌}
use Rattle.std.specs.List.{AllByRecursion}
use Rattle.dd_model.specs.Request.{IsValid}
use Rattle.dd_model.specs.Jobs.{IsJobOf}
use Rattle.dd_model.specs.declared.requests.Request.{Request}
use Rattle.dd_model.specs.declared.jobs.Job.{Job}
use Rattle.dd_model.specs.declared.jobs.Position.{Position}
use Rattle.dd_model.specs.declared.jobs.Position.TheVariants.{At, End}
use Rattle.dd_front.specs.declared.entry.Entry.{Entry}
use Rattle.dd_front.specs.declared.event.Event.{Event}
use Rattle.dd_front.specs.declared.event.Event.TheVariants.{Take, Look, Split, Finish, Back, Emit, Part, Save, Resume}
use Rattle.dd_front.specs.Machine.{Machine, IsOpened}
use Rattle.dd_front.specs.Step.{IsRun}

-- the machine of a round, and the events that led to it
pub record DeskView : Type 0 where
  pub machine : Machine
  pub log : List Event

-- where a round begins: at its first job, or at the end where it has none
abbrev pub first_place : List Job → Position
first_place [] = End
first_place (job ∷ jobs) = At job

-- each job is one of a search for the request
abbrev pub AreJobsOf : Request → List Job → Type 0
AreJobsOf q jobs = AllByRecursion (IsJobOf q) jobs

-- the job of each entry is
abbrev pub HaveJobsOf : Request → List Entry → Type 0
HaveJobsOf q es = AllByRecursion (λ e. IsJobOf q e.job) es

-- what the calls of workers book
abbrev pub IsCall : Event → Type 0
IsCall (Take worker k) = Unit {0}
IsCall (Look worker) = Unit {0}
IsCall (Split worker k jobs) = Unit {0}
IsCall (Finish worker k list) = Unit {0}
IsCall (Back worker k) = Unit {0}
IsCall Emit = ⊥
IsCall (Part count) = ⊥
IsCall Save = ⊥
IsCall Resume = ⊥

-- The request is valid and the jobs are its own. The log is one resumption and then calls, and it is a run of the machine
-- from the opening of these jobs to this one. It emits nothing.
pub record IsDesk (q : Request) (jobs : List Job) (f : Machine) (log : List Event) : Type 0 where
  pub valid : IsValid q
  pub jobs_of : AreJobsOf q jobs
  pub start : Machine
  pub opened : IsOpened q jobs (first_place jobs) 0 start
  pub calls : List Event
  pub begins : log ≡ Resume ∷ calls
  pub are_calls : AllByRecursion IsCall calls
  pub run : IsRun start [] log f []
