-- What holds of the entries of a front at all times, as far as its code rests on it.
use Rattle.std.specs.Prelude.{ℕ, List}
use Rattle.std.specs.List.{AllByRecursion}
use Rattle.dd_model.specs.Symbol.{Symbol}
use Rattle.dd_model.specs.Request.{IsValid}
use Rattle.dd_model.specs.Wanted.{IsMember, IsAscending}
use Rattle.dd_model.specs.Jobs.{AreAscendingJobs, AreApart}
use Rattle.dd_model.specs.declared.jobs.Job.{Job}
use Rattle.dd_model.specs.declared.requests.Request.{Request}
use Rattle.dd_front.specs.declared.entry.Entry.{Entry}
use Rattle.dd_front.specs.declared.entry.State.{State}
use Rattle.dd_front.specs.declared.entry.State.TheVariants.{Open, Out, Done}
use Rattle.dd_front.specs.Machine.{jobs_of}
use Rattle.dd_front.specs.Numbers.{AreBelow}

-- members of the catalogue, ascending
pub record AreInOrder (q : Request) (ss : List Symbol) : Type 0 where
  pub ascending : IsAscending ss
  pub members : AllByRecursion (IsMember q) ss

-- the list of an entry that is done is one of members, ascending
abbrev pub IsListed : Request → State → Type 0
IsListed q Open = Unit {0}
IsListed q Out = Unit {0}
IsListed q (Done list) = AreInOrder q list

-- each such list is
abbrev pub AreListed : Request → List Entry → Type 0
AreListed q es = AllByRecursion (λ e. IsListed q e.state) es

-- jobs ascend and are apart
pub record AreParts (jobs : List Job) : Type 0 where
  pub ascending : AreAscendingJobs jobs
  pub apart : AreApart jobs

-- The request is valid, each number is below the next one, lists are of members, ascending, and jobs ascend and are apart.
pub record IsFront (q : Request) (whole : List Job) (next : ℕ) (es : List Entry) : Type 0 where
  pub valid : IsValid q
  pub opening : AreParts whole
  pub numbers : AreBelow next es
  pub lists : AreListed q es
  pub jobs : AreParts (jobs_of es)
