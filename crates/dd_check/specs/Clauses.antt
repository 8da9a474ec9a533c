-- What a call of the program does, each in one fact. No round, worker or job of a worker occurs.
use Rattle.std.specs.Prelude.{◌≡◌, ◌≢◌, ◌⊎◌, ℕ, ◌+◌, ◌≤◌, [], Some, None, length}
use Rattle.dd_model.specs.Lists.{Begins}
use Rattle.dd_model.specs.Position.{IsWhollyBefore}
use Rattle.dd_model.specs.declared.jobs.Job.{Job}
use Rattle.dd_model.specs.declared.jobs.Position.TheVariants.{End}
use Rattle.dd_front_jobs.specs.declared.portions.Portion.{Portion}
use Rattle.dd_front_jobs.specs.Portions.{IsPortionJob, IsPortionText}
use Rattle.dd_check.specs.Texts.{Text}
use Rattle.dd_check.specs.Calls.{Task, Begin, Resume, Done, Paused, Call}
use Rattle.dd_check.specs.ChainStarts.{Start, StartsAt}
use Rattle.dd_check.specs.Between.{AreLinesBetween}
use Rattle.dd_check.specs.ChainPuts.{Puts, IsNextMember}

-- the lines of all members that are not before the start, which are no more than the call was to write
pub record WritesWhole (call : Call) : Type 0 where
  pub start : Start
  pub starts : StartsAt call start
  pub count : ℕ
  pub written : AreLinesBetween start.portion start.at End start.lines count call.output
  pub few : (lines : ℕ) → call.pause ≡ Some lines → count ≤ start.lines + lines

-- as many lines as the call was to write, all of them told by the checkpoint, which goes on at a member
pub record WritesUpToPause (call : Call) : Type 0 where
  pub puts : Puts call
  pub lines : ℕ
  pub asked : call.pause ≡ Some lines
  pub count : puts.check.lines ≡ puts.start.lines + lines
  pub all : puts.check.bytes ≡ length call.output
  pub next : IsNextMember puts.start.portion puts.check.at

-- the call has a name for its checkpoints
abbrev pub HasName : Task → Type 0
HasName (Begin p None) = ⊥
HasName (Begin p (Some name)) = Unit {0}
HasName (Resume kind name) = Unit {0}

-- the call wrote a byte, or came to its end or to a pause
abbrev pub HasWorked : Call → Type 0
HasWorked call = (call.output ≢ []) ⊎ ((call.ending ≡ Done) ⊎ (call.ending ≡ Paused))

-- some job of the portion is not wholly before the start
pub record HasWork (start : Start) : Type 0 where
  pub job : Job
  pub opening : IsPortionJob start.portion job
  pub left : ¬ IsWhollyBefore start.at job

pub record MeetsClauses (call : Call) : Type 0 where
  -- Whatever the ending, a prefix of the text from the start went out, and after Done the lines of all that is left.
  pub prefix : (start : Start) (text : Text) → StartsAt call start → IsPortionText start.portion start.at start.lines text → Begins call.output text
  pub done : call.ending ≡ Done → WritesWhole call
  pub paused : call.ending ≡ Paused → WritesUpToPause call
  -- The name holds what it held, or a checkpoint of this call.
  pub held : (call.after ≡ call.before) ⊎ Puts call
  -- A first call has put one before its first byte, and each call with work to do has after Done.
  pub first : (p : Portion) (name : Text) → call.task ≡ Begin p (Some name) → HasWorked call → Puts call
  pub last : call.ending ≡ Done → HasName call.task → (start : Start) → StartsAt call start → HasWork start → Puts call
  -- A call that begins nowhere writes nothing, and leaves the name as it was.
  pub refused : ((start : Start) → StartsAt call start → ⊥) → (call.output ≡ []) × (call.after ≡ call.before)
