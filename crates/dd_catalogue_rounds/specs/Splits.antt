-- Large jobs in parts: splits of the first entry, and a round after them.
use Rattle.std.specs.Prelude.{◌≡◌, ◌≤◌, ◌<◌, ◌*◌, ℕ, zero, suc, List, ◌∷◌, ◌++◌, length}
use Rattle.std.specs.List.{AllByRecursion}
use Rattle.dd_model.specs.Symbol.{Symbol}
use Rattle.dd_model.specs.Position.{IsWhollyBefore}
use Rattle.dd_model.specs.Jobs.{AreAscendingJobs, AreApart, AreChildren}
use Rattle.dd_model.specs.Request.{IsValid}
use Rattle.dd_model.specs.declared.requests.Request.{Request}
use Rattle.dd_model.specs.declared.jobs.Job.{Job}
use Rattle.dd_model.specs.declared.jobs.Position.{Position}
use Rattle.dd_model.specs.declared.jobs.Position.TheVariants.{At, End}
use Rattle.dd_front.specs.declared.entry.Entry.{Entry}
use Rattle.dd_front.specs.declared.entry.State.TheVariants.{Open}
use Rattle.dd_front.specs.Held.{IsHeld}
use Rattle.dd_front.specs.Machine.{Machine, StandsAt, jobs_of}
use Rattle.dd_front.specs.Numbers.{AreNumbered}
use Rattle.dd_board.specs.Desk.{AreJobsOf}
use Rattle.dd_pages_and_checkpoints.specs.Rounds.{AreOpen, IsRoundDone}

-- a machine that can do a round of a valid request: its jobs are of it, ascending and apart, and all wait
pub record IsReady (q : Request) (f : Machine) : Type 0 where
  pub valid : IsValid q
  pub request : f.request ≡ q
  pub jobs : AreJobsOf q (jobs_of f.entries)
  pub ascending : AreAscendingJobs (jobs_of f.entries)
  pub apart : AreApart (jobs_of f.entries)
  pub opens : AreOpen f.entries
  pub numbered : AreNumbered f.next f.entries

-- The first entry is open, and its children are in its place, fewer than 256. All else is as before.
pub record IsSplit (q : Request) (f g : Machine) : Type 0 where
  pub first : Entry
  pub rest : List Entry
  pub parts : f.entries ≡ first ∷ rest
  pub waits : first.state ≡ Open
  pub children : List Job
  pub are : AreChildren q first.job children
  pub few : length children ≤ 255
  pub later : ¬ IsWhollyBefore f.from first.job → AllByRecursion (λ c. ¬ IsWhollyBefore f.from c) children
  pub opens : AreOpen rest → AreOpen g.entries
  pub jobs : jobs_of g.entries ≡ children ++ jobs_of rest
  pub numbered : AreNumbered g.next g.entries
  pub request : g.request ≡ f.request
  pub from : g.from ≡ f.from
  pub opened : g.opened ≡ f.opened
  pub holds : (jobs : List Job) (at : Position) (out : List Symbol) → IsHeld q jobs at f out → IsHeld q jobs at g out

-- the position has no more numbers than the job
abbrev pub IsNoLonger : Position → Job → Type 0
IsNoLonger End job = Unit {0}
IsNoLonger (At p) job = length p.prefix ≤ length job.prefix

-- the job is shorter than a code, and the machine does not go on from within it
pub record IsToSplit (f : Machine) (job : Job) : Type 0 where
  pub at : Position
  pub stands : StandsAt f.from f.entries at
  pub short : IsNoLonger at job
  pub shorter : length job.prefix < 3 * job.size

-- so many splits, one after the other
abbrev pub AreSplits : Request → ℕ → Machine → Machine → Type 0
AreSplits q zero f g = g ≡ f
AreSplits q (suc n) f g = (h : Machine) × AreSplits q n f h × IsSplit q h g

-- some splits
pub record IsRefined (q : Request) (f g : Machine) : Type 0 where
  pub count : ℕ
  pub splits : AreSplits q count f g

-- some splits, and then a round
pub record IsGroupDone (q : Request) (most : ℕ) (f g : Machine) : Type 0 where
  pub ready : Machine
  pub refined : IsRefined q f ready
  pub round : IsRoundDone most ready g
