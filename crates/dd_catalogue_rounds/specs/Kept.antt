-- A run that keeps checkpoints, under way.
use Rattle.std.specs.Prelude.{◌≡◌, ◌≢◌, ◌⊎◌, ◌<◌, ◌≤◌, ℕ, List, [], ◌++◌, Bool, true, false, Option, length, take}
use Rattle.std.specs.Io.KnownBytes.{Appends}
use Rattle.std.specs.List.{AllByRecursion, Contains}
use Rattle.dd_model.specs.Position.{IsWhollyBefore}
use Rattle.dd_model.specs.declared.jobs.Job.{Job}
use Rattle.dd_model.specs.declared.jobs.Position.{Position}
use Rattle.dd_model.specs.declared.jobs.Position.TheVariants.{End}
use Rattle.dd_front.specs.Machine.{Machine, StandsAt, jobs_of}
use Rattle.dd_check.specs.declared.checkpoint.Checkpoint.{Checkpoint}
use Rattle.dd_check.specs.Clauses.{HasWork}
use Rattle.dd_check.specs.ChainPuts.{IsPut}
use Rattle.dd_check.specs.ChainStarts.{Start}
use Rattle.dd_pages_and_checkpoints.specs.Pages.{IsEmpty}
use Rattle.dd_pages_and_checkpoints.specs.Rounds.{AreOpen}
use Rattle.dd_pages_and_checkpoints.specs.MostLines.{most_lines}
use Rattle.dd_pages_and_checkpoints.specs.Saves.{IsOfRound}
use Rattle.dd_pages_and_checkpoints.specs.declared.pages.Page.{Page}
use Rattle.dd_catalogue_rounds.specs.Ways.{Way, IsUnderWay}
use Rattle.dd_catalogue_rounds.specs.Works.{AreWork}

-- The name holds a checkpoint of the run that tells all of some bytes, and was put before the last line that there may be. The run
-- is the first of its chain or has work.
pub record IsKeptPut (s : Start) (held : Option (List ℕ)) (base : List ℕ) : Type 0 where
  pub check : Checkpoint
  pub put : IsPut held base s check
  pub all : check.bytes ≡ length base
  pub before_last : check.lines < most_lines
  pub due : (s.number ≡ 1) ⊎ HasWork s

-- a later run of a chain has written nothing and put nothing
pub record HasNotMoved (s : Start) (before held : Option (List ℕ)) (base : List ℕ) (p : Position) : Type 0 where
  pub same : held ≡ before
  pub none : base ≡ []
  pub at_start : p ≡ s.at
  pub later : s.number ≢ 1

-- what the name tells of: where it was put
pub record IsPutAt (s : Start) (held : Option (List ℕ)) (base : List ℕ) (p : Position) : Type 0 where
  pub put : IsKeptPut s held base
  pub at_is : put.check.at ≡ p

-- What the name tells of, and what was written since then: members of the round that begins there. It was put where the run stands,
-- if it is said to be.
pub record HasKept (s : Start) (most : ℕ) (before held : Option (List ℕ)) (base : List ℕ) (since : Position) (here : Bool) : Type 0 where
  pub told : List ℕ
  pub more : List ℕ
  pub parts : base ≡ told ++ more
  pub at : Position
  pub kept : HasNotMoved s before held told at ⊎ IsPutAt s held told at
  pub rounds : IsOfRound s most at base
  pub is_here : here ≡ true → at ≡ since
  pub all_told : here ≡ true → more ≡ []

-- A run under way, all of whose lines are written. Its work is what is ahead, and its round the first of that.
pub record IsMid (w : Way) (tells here : Bool) (old before held now : Option (List ℕ)) (page : Page) (f : Machine) : Type 0 where
  pub appended : Appends old w.known w.base
  pub known_is : w.known ≡ now
  pub under : IsUnderWay w now page f
  pub empty : IsEmpty page
  pub settled : page.collected.written ≡ length w.base
  pub some : 1 ≤ w.most
  pub work : AreWork w.start.portion w.since w.ahead
  pub later : AllByRecursion (λ j. ¬ IsWhollyBefore w.from j) w.ahead
  pub round_is : w.round ≡ take w.most work.whole
  pub kept : tells ≡ true → HasKept w.start w.most before held w.base w.since here
  pub due : (here ≡ true) ⊎ HasWork w.start
  pub owed : (c : Job) → Contains w.jobs c → HasWork w.start

-- between two rounds: all entries wait
pub record IsHead (s : Start) (most : ℕ) (tells here : Bool) (old before held now : Option (List ℕ)) (page : Page) (f : Machine) : Type 0 where
  pub way : Way
  pub start_is : way.start ≡ s
  pub most_is : way.most ≡ most
  pub mid : IsMid way tells here old before held now page f
  pub ahead_is : way.ahead ≡ jobs_of f.entries
  pub opens : AreOpen f.entries
  pub stands : here ≡ false → StandsAt f.from f.entries way.since
  pub ended : f.entries ≡ [] → (way.since ≡ s.at) ⊎ (way.since ≡ End)
