-- Rounds: the jobs that go into one.
use Rattle.std.specs.Prelude.{◌≡◌, ◌≢◌, List, [], ◌∷◌, ◌++◌}
use Rattle.std.specs.List.{AllByRecursion}
use Rattle.dd_model.specs.declared.jobs.Job.{Job}
use Rattle.dd_front.specs.declared.entry.Entry.{Entry}
use Rattle.dd_front.specs.declared.entry.State.{State}
use Rattle.dd_front.specs.declared.entry.State.TheVariants.{Open, Out, Done}

-- the job, where the state is open
abbrev pub job_if_open : State → Job → List Job
job_if_open Open job = job ∷ []
job_if_open Out job = []
job_if_open (Done list) job = []

-- the jobs of the open entries, in order
abbrev pub open_jobs : List Entry → List Job
open_jobs [] = []
open_jobs (e ∷ es) = job_if_open e.state e.job ++ open_jobs es

-- the entry is open, and none before it is
pub record IsFirstOpen (es : List Entry) (e : Entry) : Type 0 where
  pub before : List Entry
  pub after : List Entry
  pub parts : es ≡ before ++ e ∷ after
  pub none : AllByRecursion (λ d. d.state ≢ Open) before
  pub waits : e.state ≡ Open
