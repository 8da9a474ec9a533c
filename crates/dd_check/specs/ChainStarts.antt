-- Where a call begins.
use Rattle.std.specs.Prelude.{◌≡◌, ℕ, ◌+◌, Option, Some}
use Rattle.dd_model.specs.Text.{beginning}
use Rattle.dd_model.specs.declared.jobs.Position.{Position}
use Rattle.dd_front_jobs.specs.declared.shards.Shard.{Shard}
use Rattle.dd_front_jobs.specs.declared.portions.Portion.{Portion}
use Rattle.dd_check.specs.declared.checkpoint.Checkpoint.{Checkpoint}
use Rattle.dd_check.specs.Texts.{Text}
use Rattle.dd_check.specs.ShardChecks.{IsAcceptedText}
use Rattle.dd_check.specs.declared.checkpoint.ResumeKind.{ResumeKind}
use Rattle.dd_check.specs.Calls.{kind_of, Task, Begin, Resume, Call}

-- a name holds a checkpoint text of these values, whoever wrote it: one of a catalogue, or of the shard if there is one
pub record Holds (shard : Option Shard) (held : Option Text) (c : Checkpoint) : Type 0 where
  pub text : Text
  pub held_is : held ≡ Some text
  pub accepted : IsAcceptedText shard text c

-- a name holds a checkpoint text of this kind
pub record HoldsKind (kind : ResumeKind) (held : Option Text) : Type 0 where
  pub shard : Option Shard
  pub kind_is : kind_of shard ≡ kind
  pub check : Checkpoint
  pub holds : Holds shard held check

-- the number of a run in its chain, what is asked for, where it goes on, and how many lines come before
pub record Start : Type 0 where
  pub number : ℕ
  pub portion : Portion
  pub at : Position
  pub lines : ℕ

abbrev pub first_start : Portion → Start
first_start p = record { number = 1; portion = p; at = beginning; lines = 0 }

-- the run after the one of a checkpoint of a catalogue, or of the shard if there is one
abbrev pub next_start : Option Shard → Checkpoint → Start
next_start shard c = record { number = c.run + 1; portion = record { request = c.request; shard = shard }; at = c.at; lines = c.lines }

-- the call goes on from the text that the name holds
pub record StartsNext (kind : ResumeKind) (before : Option Text) (start : Start) : Type 0 where
  pub held : HoldsKind kind before
  pub start_is : start ≡ next_start held.shard held.check

abbrev pub Starts : Task → Option Text → Start → Type 0
Starts (Begin p name) before start = start ≡ first_start p
Starts (Resume kind name) before start = StartsNext kind before start

-- Where a call begins. One that is to go on from what is no checkpoint text of its kind begins nowhere.
abbrev pub StartsAt : Call → Start → Type 0
StartsAt call start = Starts call.task call.before start
