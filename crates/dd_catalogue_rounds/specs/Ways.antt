-- A run of a catalogue under way.
use Rattle.std.specs.Prelude.{◌≡◌, ◌⊎◌, ℕ, List, ◌++◌, Option, drop}
use Rattle.std.specs.List.{AllByRecursion, Contains}
use Rattle.dd_model.specs.Symbol.{Symbol}
use Rattle.dd_model.specs.Position.{IsBefore, IsWhollyBefore}
use Rattle.dd_model.specs.Joined.{IsUnderOne}
use Rattle.dd_front_jobs.specs.Portions.{IsPortionMember}
use Rattle.dd_model.specs.declared.jobs.Job.{Job}
use Rattle.dd_model.specs.declared.jobs.Position.{Position}
use Rattle.dd_front.specs.declared.entry.Entry.{Entry}
use Rattle.dd_front.specs.Held.{IsHeld}
use Rattle.dd_front.specs.Joining.{IsDone}
use Rattle.dd_front.specs.Machine.{Machine, StandsAt, jobs_of}
use Rattle.dd_front.specs.Rounds.{open_jobs}
use Rattle.dd_front.specs.Step.{at_symbol}
use Rattle.dd_check.specs.ChainStarts.{Start}
use Rattle.dd_pages_and_checkpoints.specs.Pages.{HasLines}
use Rattle.dd_pages_and_checkpoints.specs.declared.pages.Page.{Page}
use Rattle.dd_pages_and_checkpoints.specs.Rounds.{AreOpen, AreDoneThenOpen}
use Rattle.dd_board.specs.Desk.{AreJobsOf}
use Rattle.dd_catalogue_rounds.specs.Works.{AreWithin, CoverRest, IsPartOfOne}

-- A run under way: where it began, and its jobs; what it had written when the round began, what the sink held then, where
-- the run stood, and the jobs of the round.
pub record Way : Type 0 where
  pub start : Start
  pub jobs : List Job
  pub base : List ℕ
  pub known : Option (List ℕ)
  pub from : Position
  pub since : Position
  pub ahead : List Job
  pub most : ℕ
  pub round : List Job

-- Each member that was emitted is before the beginning of the round, or under one of its jobs.
abbrev pub AreRecent : Way → List Symbol → Type 0
AreRecent w ss = (s : Symbol) → Contains ss s → IsBefore w.since s ⊎ IsUnderOne w.start.portion.request w.round s

-- the entries that are done are parts of jobs of the round
abbrev pub AreOfRound : Way → List Entry → Type 0
AreOfRound w es = (e : Entry) → Contains es e → IsDone e.state → IsPartOfOne w.round e.job

-- the machine has emitted these members since the start
pub record HasEmitted (w : Way) (f : Machine) (members : List Symbol) : Type 0 where
  pub work : AreWithin w.start.portion w.jobs
  pub covers : CoverRest w.start.portion w.start.at w.jobs
  pub opened : f.opened ≡ w.start.lines
  pub stays : f.from ≡ w.from
  pub all : AreJobsOf w.start.portion.request w.ahead
  pub gone : List Job
  pub jobs_are : w.ahead ≡ gone ++ jobs_of f.entries
  pub entries_are : AreDoneThenOpen f.entries
  pub few : AreOpen (drop w.most f.entries)
  pub held : IsHeld w.start.portion.request w.jobs w.start.at f members
  pub recent : AreRecent w members
  pub of_round : AreOfRound w f.entries

-- Whatever a machine has emitted, it has emitted these members besides.
abbrev pub EmitsMore : Machine → Machine → List Symbol → Type 0
EmitsMore f g more = (w : Way) (ss : List Symbol) → HasEmitted w f ss → HasEmitted w g (ss ++ more)

-- and their lines are written, collected or still to be made
pub record IsUnderWay (w : Way) (now : Option (List ℕ)) (page : Page) (f : Machine) : Type 0 where
  pub members : List Symbol
  pub emitted : HasEmitted w f members
  pub lines : HasLines w.start.lines w.base w.known now page members

-- Whatever was under way goes on, up to the first entry that is open.
pub record GoesOn (before now : Option (List ℕ)) (old new : Page) (f g : Machine) : Type 0 where
  pub way : (w : Way) → IsUnderWay w before old f → IsUnderWay w now new g
  pub waiting : open_jobs g.entries ≡ open_jobs f.entries

-- the machine has emitted the members up to a last line, and stands at one more
pub record IsFull (w : Way) (now : Option (List ℕ)) (page : Page) (last : ℕ) (g : Machine) : Type 0 where
  pub members : List Symbol
  pub work : AreWithin w.start.portion w.jobs
  pub covers : CoverRest w.start.portion w.start.at w.jobs
  pub held : IsHeld w.start.portion.request w.jobs w.start.at g members
  pub lines : HasLines w.start.lines w.base w.known now page members
  pub recent : AreRecent w members
  pub count : page.count ≡ last
  pub next : Symbol
  pub member : IsPortionMember w.start.portion next
  pub stands : StandsAt g.from g.entries (at_symbol next)
  pub emitted : HasEmitted (record w { from = at_symbol next }) g members
  pub later : AllByRecursion (λ j. ¬ IsWhollyBefore (at_symbol next) j) (jobs_of g.entries)

-- Whatever was under way comes to its last line.
abbrev pub FillsUp : Option (List ℕ) → Option (List ℕ) → Page → Page → ℕ → Machine → Machine → Type 0
FillsUp before now old new last f g = (w : Way) → IsUnderWay w before old f → IsFull w now new last g
