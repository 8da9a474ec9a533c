-- The checkpoints of a run.
use Rattle.std.specs.Prelude.{◌≡◌, ◌≢◌, ◌⊎◌, ℕ, List, Option, Some, Result, Ok, Err, take}
use Rattle.dd_model.specs.Symbol.{Symbol}
use Rattle.dd_model.specs.Position.{IsBefore}
use Rattle.dd_model.specs.Joined.{IsUnderOne}
use Rattle.dd_model.specs.declared.jobs.Job.{Job}
use Rattle.dd_model.specs.declared.jobs.Position.{Position}
use Rattle.dd_front.specs.Machine.{Machine, StandsAt}
use Rattle.dd_check.specs.declared.checkpoint.Checkpoint.{Checkpoint}
use Rattle.dd_front_jobs.specs.Portions.{IsPortionMember}
use Rattle.dd_check.specs.ShardChecks.{IsSavedText}
use Rattle.dd_check.specs.ChainPuts.{DoCountsFit}
use Rattle.dd_check.specs.ChainStarts.{Start}
use Rattle.dd_pages_and_checkpoints.specs.declared.fault.RunFault.{RunFault}
use Rattle.dd_pages_and_checkpoints.specs.declared.pages.Page.{Page}
use Rattle.dd_pages_and_checkpoints.specs.Outputs.{IsShown}
use Rattle.dd_pages_and_checkpoints.specs.Rounds.{AreJobsFrom}

-- the text of the checkpoint of a run whose machine stands here, with the lines and the bytes of the page
pub record IsCheckAt (s : Start) (page : Page) (f : Machine) (text : List ℕ) : Type 0 where
  pub check : Checkpoint
  pub is_text : IsSavedText s.portion.shard check text
  pub fit : DoCountsFit check
  pub run : check.run ≡ s.number
  pub request : check.request ≡ s.portion.request
  pub lines : check.lines ≡ page.count
  pub bytes : check.bytes ≡ page.collected.written
  pub stands : StandsAt f.from f.entries check.at

-- the name holds it
pub record HoldsCheckAt (s : Start) (page : Page) (f : Machine) (held : Option (List ℕ)) : Type 0 where
  pub text : List ℕ
  pub held_is : held ≡ Some text
  pub is_check : IsCheckAt s page f text

-- the name holds the checkpoint, or after a fault it or what it held
abbrev pub Saves : {T : Type 0} → Start → Page → Machine → Option (List ℕ) → Option (List ℕ) → Result T RunFault → Type 0
Saves s page f before after (Ok done) = HoldsCheckAt s page f after
Saves s page f before after (Err fault) = (after ≡ before) ⊎ HoldsCheckAt s page f after

-- the first run of a chain does so, and a later one leaves the name as it was
abbrev pub SavesFirst : Start → Page → Machine → Option (List ℕ) → Option (List ℕ) → Result Unit RunFault → Type 0
SavesFirst s page f before after result = ((s.number ≡ 1) × Saves s page f before after result) ⊎ ((s.number ≢ 1) × (after ≡ before))

-- the member is under one of the first jobs, at most so many, that are not wholly before the position
pub record IsInRound (s : Start) (round : ℕ) (at : Position) (m : Symbol) : Type 0 where
  pub jobs : List Job
  pub from : AreJobsFrom s.portion at jobs
  pub under : IsUnderOne s.portion.request (take round jobs) m

-- each member of the output that is not before the position is in the round that begins there
abbrev pub IsOfRound : Start → ℕ → Position → List ℕ → Type 0
IsOfRound s round at output = (m : Symbol) → IsPortionMember s.portion m → (¬ IsBefore s.at m) → IsShown s output m → (¬ IsBefore at m) → IsInRound s round at m
