-- What holds of a machine, and of what it has emitted, all through a run from an opening.
use Rattle.std.specs.Prelude.{◌≡◌, ◌⊎◌, ℕ, ◌+◌, ◌≤◌, List, length, take}
use Rattle.std.specs.List.{Contains}
use Rattle.dd_model.specs.Symbol.{Symbol}
use Rattle.dd_model.specs.Position.{IsBefore}
use Rattle.dd_model.specs.Jobs.{AreAscendingJobs, AreApart, AreMembersUnder}
use Rattle.dd_model.specs.Wanted.{IsMember, IsAscending}
use Rattle.dd_model.specs.declared.requests.Request.{Request}
use Rattle.dd_model.specs.declared.jobs.Job.{Job}
use Rattle.dd_model.specs.declared.jobs.Position.{Position}
use Rattle.dd_model.specs.declared.jobs.Position.TheVariants.{At}
use Rattle.dd_front.specs.declared.entry.Entry.{Entry}
use Rattle.dd_front.specs.declared.entry.State.TheVariants.{Done}
use Rattle.dd_front.specs.Machine.{Machine, jobs_of}
use Rattle.dd_front.specs.Numbers.{AreNumbered}
use Rattle.dd_front.specs.Covered.{IsLater, IsBetween}
use Rattle.dd_front.specs.Absorbed.{Extends}

-- each entry that is done has what is under its job
abbrev pub AreFound : Request → List Entry → Type 0
AreFound q es = (e : Entry) → Contains es e → (list : List Symbol) → e.state ≡ Done list → AreMembersUnder q e.job list

-- the symbol is before a position, or before each of these jobs
abbrev pub IsPast : List Job → Position → Symbol → Type 0
IsPast jobs from s = IsBefore from s ⊎ ((job : Job) → Contains jobs job → IsBefore (At job) s)

-- a member before one position is before another
abbrev pub IsFurther : Request → Position → Position → Type 0
IsFurther q at from = (s : Symbol) → IsMember q s → IsBefore at s → IsBefore from s

-- Symbols emitted, and jobs that go on from a position where the symbols end: they are the members under an opening from a
-- position on, each once and in order.
pub record GoOn (q : Request) (opening : List Job) (at : Position) (jobs : List Job) (from : Position) (out : List Symbol) : Type 0 where
  pub ascending_jobs : AreAscendingJobs jobs
  pub apart : AreApart jobs
  pub extend : (job : Job) → Contains jobs job → (whole : Job) × Contains opening whole × Extends job whole
  pub further : IsFurther q at from
  pub ascending : IsAscending out
  pub emitted : (s : Symbol) → Contains out s → IsLater q opening at s × IsPast jobs from s
  pub complete : (s : Symbol) → IsLater q opening at s → Contains out s ⊎ IsLater q jobs from s

-- as many lines are saved as there are members between the opening's position and the one that is saved, and these were emitted
pub record IsSaved (q : Request) (opening : List Job) (at : Position) (f : Machine) (out : List Symbol) : Type 0 where
  pub count : ℕ
  pub enough : count ≤ length out
  pub lines : f.saved.lines ≡ f.opened + count
  pub further : IsFurther q at f.saved.position
  pub emitted : (s : Symbol) → Contains (take count out) s → IsBetween q opening at f.saved.position s
  pub complete : (s : Symbol) → IsBetween q opening at f.saved.position s → Contains (take count out) s

-- What a machine holds that began with these jobs at a position, and has emitted these symbols.
pub record IsHeld (q : Request) (jobs : List Job) (at : Position) (f : Machine) (out : List Symbol) : Type 0 where
  pub request : f.request ≡ q
  pub opening : f.opening ≡ jobs
  pub ascending : AreAscendingJobs jobs
  pub apart : AreApart jobs
  pub numbered : AreNumbered f.next f.entries
  pub found : AreFound q f.entries
  pub go_on : GoOn q jobs at (jobs_of f.entries) f.from out
  pub lines : f.lines ≡ f.opened + length out
  pub saved : IsSaved q jobs at f out
