-- Runs of a catalogue, and what they have written where they came to an end of their own.
use Rattle.std.specs.Prelude.{◌≡◌, ℕ, ◌+◌, ◌<◌, ◌≤◌, List, Option, Some, MatchBool}
use Rattle.dd_model.specs.declared.jobs.Position.{Position}
use Rattle.dd_model.specs.declared.jobs.Position.TheVariants.{End}
use Rattle.dd_check.specs.Between.{AreLinesBetween}
use Rattle.dd_check.specs.ChainPuts.{IsNextMember}
use Rattle.dd_check.specs.ChainStarts.{Start}
use Rattle.dd_pages_and_checkpoints.specs.MostLines.{most_lines}
use Rattle.dd_pages_and_checkpoints.specs.declared.finish.Finish.{Finish}
use Rattle.dd_pages_and_checkpoints.specs.declared.finish.Finish.TheVariants.{Whole, Paused, CutShort}
use Rattle.dd_pages_and_checkpoints.specs.declared.limit.Limit.{Limit}
use Rattle.dd_pages_and_checkpoints.specs.declared.run.Run.{Run}

-- where a run begins
abbrev pub start_of : Run → Start
start_of run = record { number = run.number; portion = run.portion; at = run.at; lines = run.lines }

-- the pause comes after this line, which may be written
pub record IsPause (before : ℕ) (pause : Option ℕ) (last : ℕ) : Type 0 where
  pub lines : ℕ
  pub asked : pause ≡ Some lines
  pub last_is : last ≡ before + lines
  pub within : last ≤ most_lines

-- the last line of all comes before any pause
pub record IsBeforePause (before : ℕ) (pause : Option ℕ) (last : ℕ) : Type 0 where
  pub most : last ≡ most_lines
  pub later : (lines : ℕ) → pause ≡ Some lines → most_lines < before + lines

abbrev pub IsLimit : ℕ → Option ℕ → Limit → Type 0
IsLimit before pause limit = MatchBool limit.pauses (IsPause before pause limit.last) (IsBeforePause before pause limit.last)

-- the lines of all members that are not before the start, of which no number is too large, and not more than are to be written before a pause
pub record WritesRest (s : Start) (pause : Option ℕ) (output : List ℕ) : Type 0 where
  pub count : ℕ
  pub written : AreLinesBetween s.portion s.at End s.lines count output
  pub within : count ≤ most_lines
  pub few : (lines : ℕ) → pause ≡ Some lines → count ≤ s.lines + lines

-- the lines up to this number, after which there is one more member
pub record WritesUpTo (s : Start) (last : ℕ) (output : List ℕ) : Type 0 where
  pub at : Position
  pub written : AreLinesBetween s.portion s.at at s.lines last output
  pub next : IsNextMember s.portion at

-- the lines before the pause, and there are more
pub record WritesUpToPause (s : Start) (pause : Option ℕ) (output : List ℕ) : Type 0 where
  pub last : ℕ
  pub pause_is : IsPause s.lines pause last
  pub lines : WritesUpTo s last output

-- the lines up to the last number, which comes before the pause, and there are more
pub record WritesUpToMost (s : Start) (pause : Option ℕ) (output : List ℕ) : Type 0 where
  pub before_pause : IsBeforePause s.lines pause most_lines
  pub lines : WritesUpTo s most_lines output

abbrev pub Finishes : Start → Option ℕ → List ℕ → Finish → Type 0
Finishes s pause output Whole = WritesRest s pause output
Finishes s pause output Paused = WritesUpToPause s pause output
Finishes s pause output CutShort = WritesUpToMost s pause output
