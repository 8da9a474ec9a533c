-- Entries that come back from a round.
use Rattle.std.specs.Prelude.{◌≡◌, ℕ, ◌≤◌, List, [], ◌∷◌, ◌++◌, take, drop, length}
use Rattle.std.specs.List.{AllByRecursion, Contains}
use Rattle.dd_model.specs.Symbol.{Symbol}
use Rattle.dd_model.specs.Lists.{Begins}
use Rattle.dd_model.specs.Jobs.{AreAscendingJobs, AreApart, AreMembersUnder}
use Rattle.dd_model.specs.Joined.{AreUnderJobs}
use Rattle.dd_model.specs.declared.requests.Request.{Request}
use Rattle.dd_model.specs.declared.jobs.Job.{Job}
use Rattle.dd_front.specs.declared.entry.Entry.{Entry}
use Rattle.dd_front.specs.declared.entry.State.{State}
use Rattle.dd_front.specs.declared.entry.State.TheVariants.{Open, Out, Done}
use Rattle.dd_front.specs.Machine.{Machine, entry_of, jobs_of}

-- the job is of the other's size, and its prefix begins with the other's
pub record Extends (child job : Job) : Type 0 where
  pub size : child.size ≡ job.size
  pub begins : Begins job.prefix child.prefix

-- the entry is done with what is under its job
pub record IsFound (q : Request) (e : Entry) : Type 0 where
  pub list : List Symbol
  pub done : e.state ≡ Done list
  pub under : AreMembersUnder q e.job list

-- the list of an entry that is done
abbrev pub list_of : State → List Symbol
list_of Open = []
list_of Out = []
list_of (Done list) = list

-- the lists of entries, one after the other
abbrev pub found_by : List Entry → List Symbol
found_by [] = []
found_by (e ∷ es) = list_of e.state ++ found_by es

-- Entries that come from these jobs: each is done, each extends one of the jobs, each job has one, and their lists one after
-- the other are what is under the jobs.
pub record ComeFrom (q : Request) (jobs : List Job) (es : List Entry) : Type 0 where
  pub found : AllByRecursion (IsFound q) es
  pub ascending : AreAscendingJobs (jobs_of es)
  pub apart : AreApart (jobs_of es)
  pub extend : (e : Entry) → Contains es e → (job : Job) × Contains jobs job × Extends e.job job
  pub each : (job : Job) → Contains jobs job → (e : Entry) × Contains es e × Extends e.job job
  pub all : AreUnderJobs q jobs (found_by es)

-- the first k entries of a machine are open, and the entries handed in come from their jobs
pub record MayAbsorb (f : Machine) (k : ℕ) (es : List Entry) : Type 0 where
  pub enough : k ≤ length f.entries
  pub open_entries : AllByRecursion (λ e. e.state ≡ Open) (take k f.entries)
  pub come_from : ComeFrom f.request (jobs_of (take k f.entries)) es

-- Each of the round's entries keeps its number and its job, and is done with the lists of its own entries handed in.
abbrev pub AreAbsorbed : List Entry → List Entry → List Entry → Type 0
AreAbsorbed [] es [] = es ≡ []
AreAbsorbed [] es (b ∷ bs) = ⊥
AreAbsorbed (a ∷ olds) es [] = ⊥
AreAbsorbed (a ∷ olds) es (b ∷ bs) = (own : List Entry) × (rest : List Entry) × (es ≡ own ++ rest) × AllByRecursion (λ e. Extends e.job a.job) own ×
    (b ≡ entry_of a.number a.job (Done (found_by own))) × AreAbsorbed olds rest bs

-- the first k entries are done with what was handed in; the others stay
pub record Absorbs (f : Machine) (k : ℕ) (es : List Entry) (g : Machine) : Type 0 where
  pub done : List Entry
  pub absorbed : AreAbsorbed (take k f.entries) es done
  pub after : g ≡ record f { entries = done ++ drop k f.entries }
