-- What a call leaves under its name.
use Rattle.std.specs.Prelude.{◌≡◌, ◌⊎◌, ◌^◌, ◌<◌, ◌≤◌, Option, Some, length, take}
use Rattle.dd_model.specs.Symbol.{Symbol}
use Rattle.dd_model.specs.Code.{code}
use Rattle.dd_model.specs.declared.jobs.Job.{Job}
use Rattle.dd_model.specs.declared.jobs.Position.{Position}
use Rattle.dd_model.specs.declared.jobs.Position.TheVariants.{At, End}
use Rattle.dd_front_jobs.specs.declared.portions.Portion.{Portion}
use Rattle.dd_front_jobs.specs.Portions.{IsPortionJob, IsPortionMember}
use Rattle.dd_check.specs.declared.checkpoint.Checkpoint.{Checkpoint}
use Rattle.dd_check.specs.Texts.{Text}
use Rattle.dd_check.specs.ShardChecks.{IsSavedText}
use Rattle.dd_check.specs.Calls.{Call}
use Rattle.dd_check.specs.ChainStarts.{Start, StartsAt}
use Rattle.dd_check.specs.Between.{AreLinesBetween}

-- the size and the whole code of a member
pub record IsAtMember (p : Portion) (job : Job) : Type 0 where
  pub next : Symbol
  pub member : IsPortionMember p next
  pub job_is : job ≡ record { size = next.size; prefix = code next }

abbrev pub IsNextMember : Portion → Position → Type 0
IsNextMember p End = ⊥
IsNextMember p (At job) = IsAtMember p job

-- where a run may stop: at the end, at a job of its portion, or at a member
abbrev pub IsStop : Portion → Position → Type 0
IsStop p End = Unit {0}
IsStop p (At job) = IsPortionJob p job ⊎ IsAtMember p job

-- the numbers fit in their types, and may be out of the range in which they are read again
pub record DoCountsFit (c : Checkpoint) : Type 0 where
  pub run : c.run < 2 ^ 32
  pub lines : c.lines < 2 ^ 128
  pub bytes : c.bytes < 2 ^ 128

-- The name holds the text of a checkpoint of the run that began at the start: so many bytes of what it wrote are the lines from
-- its start to the position, numbered up to the checkpoint's number of lines.
pub record IsPut (after : Option Text) (output : Text) (start : Start) (c : Checkpoint) : Type 0 where
  pub text : Text
  pub held : after ≡ Some text
  pub is_text : IsSavedText start.portion.shard c text
  pub fit : DoCountsFit c
  pub run : c.run ≡ start.number
  pub request : c.request ≡ start.portion.request
  pub within : c.bytes ≤ length output
  pub written : AreLinesBetween start.portion start.at c.at start.lines c.lines (take c.bytes output)
  pub stop : IsStop start.portion c.at

-- after the call it does
abbrev pub HasPut : Call → Start → Checkpoint → Type 0
HasPut call start c = IsPut call.after call.output start c

pub record Puts (call : Call) : Type 0 where
  pub start : Start
  pub starts : StartsAt call start
  pub check : Checkpoint
  pub put : HasPut call start check
