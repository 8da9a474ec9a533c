-- The front machine: the jobs of an opening on their way from open to done.
use Rattle.std.specs.Prelude.{◌≡◌, ◌⊎◌, ℕ, ◌+◌, List, [], ◌∷◌, length, map}
use Rattle.dd_model.specs.Position.{IsPosition, IsWhollyBefore, IsWithin}
use Rattle.dd_model.specs.Jobs.{AreAscendingJobs, AreApart}
use Rattle.dd_model.specs.declared.requests.Request.{Request}
use Rattle.dd_model.specs.declared.jobs.Job.{Job}
use Rattle.dd_model.specs.declared.jobs.Position.{Position}
use Rattle.dd_model.specs.declared.jobs.Position.TheVariants.{At, End}
use Rattle.dd_front.specs.declared.entry.Entry.{Entry}
use Rattle.dd_front.specs.declared.entry.State.{State}
use Rattle.dd_front.specs.declared.entry.State.TheVariants.{Open}

-- a count of lines, and the position after them
pub record Saved : Type 0 where
  pub lines : ℕ
  pub position : Position

-- What a front holds. Entries have numbers from 1 on; `next` is the next free one. `opened` counts the lines
-- before the opening, and `lines` those before the next symbol. Members before `from` are not emitted.
pub record Machine : Type 0 where
  pub request : Request
  pub opening : List Job
  pub opened : ℕ
  pub from : Position
  pub entries : List Entry
  pub next : ℕ
  pub lines : ℕ
  pub saved : Saved

-- the entry with these parts
abbrev pub entry_of : ℕ → Job → State → Entry
entry_of k job state = record { number = k; job = job; state = state }

-- open entries of these jobs, numbered from k on
abbrev pub open_entries : ℕ → List Job → List Entry
open_entries k [] = []
open_entries k (job ∷ jobs) = entry_of k job Open ∷ open_entries (k + 1) jobs

-- the jobs of entries
abbrev pub jobs_of : List Entry → List Job
jobs_of = map (λ e. e.job)

-- the job is wholly before the position, or the position is within the job
abbrev pub IsBegun : Position → Job → Type 0
IsBegun from job = IsWhollyBefore from job ⊎ IsWithin job from

-- Where a machine stands: at the end where no entry is left, further within the job of the first entry where
-- the machine goes on from there, and else at that job.
abbrev pub StandsAt : Position → List Entry → Position → Type 0
StandsAt from [] at = at ≡ End
StandsAt from (e ∷ es) at = (IsBegun from e.job × (at ≡ from)) ⊎ ((¬ IsBegun from e.job) × (at ≡ At e.job))

-- the machine of a request with these jobs, from a position on and after so many lines
pub record IsOpened (q : Request) (jobs : List Job) (at : Position) (k : ℕ) (f : Machine) : Type 0 where
  pub ascending : AreAscendingJobs jobs
  pub apart : AreApart jobs
  pub position : IsPosition at
  pub request : f.request ≡ q
  pub opening : f.opening ≡ jobs
  pub opened : f.opened ≡ k
  pub from : f.from ≡ at
  pub entries : f.entries ≡ open_entries 1 jobs
  pub next : f.next ≡ length jobs + 1
  pub lines : f.lines ≡ k
  pub saved_lines : f.saved.lines ≡ k
  pub saved_position : StandsAt at f.entries f.saved.position
