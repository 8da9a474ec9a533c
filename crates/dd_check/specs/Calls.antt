-- Calls of the program that go on under one name of the store.
use Rattle.std.specs.Prelude.{ℕ, Option, None, Some}
use Rattle.dd_model.specs.declared.requests.Request.{Request}
use Rattle.dd_front_jobs.specs.declared.shards.Shard.{Shard}
use Rattle.dd_front_jobs.specs.declared.portions.Portion.{Portion}
use Rattle.dd_front_jobs.specs.Portions.{whole}
use Rattle.dd_check.specs.declared.checkpoint.ResumeKind.{ResumeKind}
use Rattle.dd_check.specs.declared.checkpoint.ResumeKind.TheVariants.{Catalogues, Shards}
use Rattle.dd_check.specs.Texts.{Text}

-- which texts the runs of a catalogue go on from, and those of the shard if there is one
abbrev pub kind_of : Option Shard → ResumeKind
kind_of None = Catalogues
kind_of (Some shard) = Shards

-- What a call is asked for: a catalogue or a shard, with a name for its checkpoints or without one; or to go on from
-- the checkpoint of a name.
pub data Task : Type 0 where
  Begin : Portion → Option Text → Task
  Resume : ResumeKind → Text → Task

-- how a call ended, as far as a chain asks: it wrote all that was left, it paused, or it stopped for any other cause
pub data Ending : Type 0 where
  Done : Ending
  Paused : Ending
  Stopped : Ending

-- What a call was asked for, and after how many lines it was to pause, if it was; what the name held before it and after
-- it; what it wrote; and how it ended.
pub record Call : Type 0 where
  pub task : Task
  pub pause : Option ℕ
  pub before : Option Text
  pub after : Option Text
  pub output : Text
  pub ending : Ending

-- a call for a catalogue without a name that wrote these bytes and came to its end
abbrev pub lone_call : Request → Text → Call
lone_call q bytes = record { task = Begin (whole q) None; pause = None; before = None; after = None; output = bytes; ending = Done }
