-- What may happen to a machine.
use Rattle.std.specs.Prelude.{◌≡◌, ◌≢◌, ◌⊎◌, ℕ, ◌<◌, List, ◌∷◌, length}
use Rattle.std.specs.List.{Contains}
use Rattle.dd_model.specs.Symbol.{Symbol}
use Rattle.dd_model.specs.Lists.{IsWithout}
use Rattle.dd_model.specs.Position.{IsBefore}
use Rattle.dd_model.specs.Jobs.{AreMembersUnder, AreChildren}
use Rattle.dd_model.specs.declared.jobs.Job.{Job}
use Rattle.dd_front.specs.declared.entry.Entry.{Entry}
use Rattle.dd_front.specs.declared.entry.State.{State}
use Rattle.dd_front.specs.declared.entry.State.TheVariants.{Open, Out, Done}
use Rattle.dd_front.specs.declared.event.Event.{Event}
use Rattle.dd_front.specs.declared.event.Event.TheVariants.{Take, Look, Split, Finish, Back, Emit, Part, Save, Resume}
use Rattle.dd_front.specs.Machine.{Machine, entry_of}

-- the entry of this number has this state
pub record HasState (f : Machine) (k : ℕ) (state : State) : Type 0 where
  pub job : Job
  pub stands : Contains f.entries (entry_of k job state)

-- the first entry is done, with this list
pub record HasFirst (f : Machine) (list : List Symbol) : Type 0 where
  pub number : ℕ
  pub job : Job
  pub rest : List Entry
  pub entries : f.entries ≡ entry_of number job (Done list) ∷ rest

-- the entry is out, and its job has these children
pub record MaySplit (f : Machine) (k : ℕ) (jobs : List Job) : Type 0 where
  pub out : HasState f k Out
  pub children : AreChildren f.request out.job jobs

-- the entry is out, and the list is what is under its job
pub record MayFinish (f : Machine) (k : ℕ) (list : List Symbol) : Type 0 where
  pub out : HasState f k Out
  pub under : AreMembersUnder f.request out.job list

-- the first entry is done, and has more than so many members that are not before `from`
pub record MayPart (f : Machine) (count : ℕ) : Type 0 where
  pub list : List Symbol
  pub done : HasFirst f list
  pub later : List Symbol
  pub not_before : IsWithout (IsBefore f.from) list later
  pub more : count < length later

-- What the states of the entries allow. A split, a finish and a return with number 0 always are.
abbrev pub IsPermitted : Machine → Event → Type 0
IsPermitted f (Take worker k) = HasState f k Open
IsPermitted f (Look worker) = (e : Entry) → Contains f.entries e → e.state ≢ Open
IsPermitted f (Split worker k jobs) = (k ≡ 0) ⊎ HasState f k Out
IsPermitted f (Finish worker k list) = (k ≡ 0) ⊎ HasState f k Out
IsPermitted f (Back worker k) = (k ≡ 0) ⊎ HasState f k Out
IsPermitted f Emit = (list : List Symbol) × HasFirst f list
IsPermitted f (Part count) = MayPart f count
IsPermitted f Save = Unit {0}
IsPermitted f Resume = Unit {0}

-- The jobs of a split are children too, and the list of a finish is what is under the job.
abbrev pub IsAllowed : Machine → Event → Type 0
IsAllowed f (Split worker k jobs) = (k ≡ 0) ⊎ MaySplit f k jobs
IsAllowed f (Finish worker k list) = (k ≡ 0) ⊎ MayFinish f k list
IsAllowed f e = IsPermitted f e
