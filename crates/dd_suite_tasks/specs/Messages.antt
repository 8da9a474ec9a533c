-- What the error stream is told.
use Rattle.std.specs.Prelude.{◌≡◌, ◌⊎◌, ℕ, List, Option, Bool}
use Rattle.std.specs.Io.KnownBytes.{Appends}
use Rattle.dd_ports.specs.Causes.{Rose}
use Rattle.dd_ports.specs.Grows.{GrowsByPrefix}
use Rattle.dd_ports.specs.declared.sink.Sink.{Ghosts as Sinks}
use Rattle.dd_suite_tasks.specs.declared.status.Status.{Status}
use Rattle.dd_suite_tasks.specs.declared.ending.Ending.{Ending}
use Rattle.dd_suite_tasks.specs.declared.ending.Ending.TheVariants.{Refused, RefusedSymbol, RefusedCheck, RefusedMerge, Paused}
use Rattle.dd_suite_tasks.specs.Arguments.{NameFaulty, NameRefused}
use Rattle.dd_suite_tasks.specs.Beginnings.{NameNoCheck}
use Rattle.dd_suite_tasks.specs.Cuts.{PauseAfter}
use Rattle.dd_suite_tasks.specs.Endings.{status_of, message_of}
use Rattle.dd_suite_tasks.specs.MergeEndings.{NameUnmerged}

-- The fault of a refused file is the first fault of the file that the words name, a refused symbol is the first of which their
-- command makes nothing, the fault of a checkpoint is that of the text that they go on from, the reason why files are not merged is
-- that of the files that they merge, and a run paused where they ask for it.
abbrev pub IsItsCause : Ending → List (List ℕ) → Bool → (List ℕ → Option (List ℕ)) → Type 0
IsItsCause (Refused fault) words tells held = NameFaulty words tells held fault
IsItsCause (RefusedSymbol refusal) words tells held = NameRefused words tells held refusal
IsItsCause (RefusedCheck fault) words tells held = NameNoCheck words tells held fault
IsItsCause (RefusedMerge refusal) words tells held = NameUnmerged words tells held refusal
IsItsCause (Paused lines) words tells held = PauseAfter words tells held lines
IsItsCause ending words tells held = Unit {0}

-- what the error stream holds, if it tells, and how often a write on it has failed or has run out of memory
pub record Stream : Type 0 where
  pub held : Option (List ℕ)
  pub faults : ℕ
  pub shortages : ℕ

abbrev pub stream_of : {E : Type 0} → Sinks E → E → Stream
stream_of e err = record { held = e.held err; faults = e.faults err; shortages = e.shortages err }

-- the line quotes a part of a file, so that a text is made of it before it is written
abbrev pub IsMade : Ending → Type 0
IsMade (Refused fault) = Unit {0}
IsMade (RefusedSymbol refusal) = Unit {0}
IsMade (RefusedCheck fault) = Unit {0}
IsMade (RefusedMerge refusal) = Unit {0}
IsMade ending = ⊥

-- a write ran out of memory and counted it, or there may have been no memory to make the line
abbrev pub IsShort : Ending → ℕ → ℕ → Type 0
IsShort ending before now = Rose before now ⊎ IsMade ending

-- Known bytes grew by the line of an ending with this status, or by a prefix where a write failed or memory ran out. The line of
-- a refusal tells of its first fault, or of its first symbol that is refused, and that of a pause after how many lines of the
-- chain it came.
pub record TellsOf (status : Status) (words : List (List ℕ)) (tells : Bool) (held : List ℕ → Option (List ℕ)) (old new : Stream) : Type 0 where
  pub ending : Ending
  pub status_is : status_of ending ≡ status
  pub cause : IsItsCause ending words tells held
  pub grown : GrowsByPrefix old.held new.held (message_of ending)
  pub told : Appends old.held new.held (message_of ending) ⊎ (Rose old.faults new.faults ⊎ IsShort ending old.shortages new.shortages)
