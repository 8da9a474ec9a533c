-- Runs that leave out lines.
use Rattle.std.specs.Prelude.{◌≡◌, ◌⊎◌, ℕ, List, Option, Bool}
use Rattle.std.specs.Io.KnownBytes.{Appends}
use Rattle.dd_check.specs.ChainStarts.{Start}
use Rattle.dd_pages_and_checkpoints.specs.Runs.{IsPause, WritesUpToPause, WritesUpToMost}
use Rattle.dd_suite_tasks.specs.declared.status.Status.{Status}
use Rattle.dd_suite_tasks.specs.declared.status.Status.TheVariants.{Done, Paused, TooManyLines}
use Rattle.dd_suite_tasks.specs.Beginnings.{BeginsAt}
use Rattle.dd_suite_tasks.specs.Words.{Order, AskForRun}

-- There are more lines than a run is to write before it pauses, and known bytes grew by those.
pub record Pauses (words : List (List ℕ)) (tells : Bool) (held : List ℕ → Option (List ℕ)) (old new : Option (List ℕ)) : Type 0 where
  pub order : Order
  pub asked : AskForRun words order
  pub start : Start
  pub begins : BeginsAt order.task tells held start
  pub output : List ℕ
  pub lines : WritesUpToPause start order.pause output
  pub appended : Appends old new output

-- There are more lines than there may be, no pause comes before, and known bytes grew by those that may be.
pub record CutsShort (words : List (List ℕ)) (tells : Bool) (held : List ℕ → Option (List ℕ)) (old new : Option (List ℕ)) : Type 0 where
  pub order : Order
  pub asked : AskForRun words order
  pub start : Start
  pub begins : BeginsAt order.task tells held start
  pub output : List ℕ
  pub lines : WritesUpToMost start order.pause output
  pub appended : Appends old new output

-- the words ask for a run that pauses after the line of this number
pub record PauseAfter (words : List (List ℕ)) (tells : Bool) (held : List ℕ → Option (List ℕ)) (last : ℕ) : Type 0 where
  pub order : Order
  pub asked : AskForRun words order
  pub start : Start
  pub begins : BeginsAt order.task tells held start
  pub pause_is : IsPause start.lines order.pause last

-- a run came to its end, to its pause, or to the last line that there may be
abbrev pub IsEndOfOwn : Status → Type 0
IsEndOfOwn status = (status ≡ Done) ⊎ ((status ≡ Paused) ⊎ (status ≡ TooManyLines))
