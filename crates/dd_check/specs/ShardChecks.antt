-- The texts of checkpoints of shards: a line with the numbers of the shard, and the text of a checkpoint.
use Rattle.std.specs.Prelude.{◌≡◌, [], ◌∷◌, ◌++◌, Option, None, Some, codes, decimal}
use Rattle.dd_model.specs.declared.jobs.Position.{Position}
use Rattle.dd_model.specs.declared.jobs.Position.TheVariants.{At, End}
use Rattle.dd_model.specs.declared.requests.Request.{Request}
use Rattle.dd_front_jobs.specs.declared.shards.Shard.{Shard}
use Rattle.dd_front_jobs.specs.Shards.{IsShardJob}
use Rattle.dd_check.specs.declared.checkpoint.Checkpoint.{Checkpoint}
use Rattle.dd_check.specs.Texts.{Text, line_text}
use Rattle.dd_check.specs.Checks.{IsCheckText}
use Rattle.dd_check.specs.Accepted.{IsCheckpointText}
use Rattle.dd_check.specs.Places.{opening_job}

-- the first line
abbrev pub shard_line : Shard → Text
shard_line shard = line_text (codes "dressline" ∷ codes "shard" ∷ decimal shard.index ∷ decimal shard.count ∷ [])

-- the text that is written for a checkpoint of a shard
pub record IsShardCheck (shard : Shard) (c : Checkpoint) (text : Text) : Type 0 where
  pub check : Text
  pub is_check : IsCheckText c check
  pub text_is : text ≡ shard_line shard ++ check

-- the end, or a size and numbers of which the first ones are a job of the shard
abbrev pub IsShardPlace : Request → Shard → Position → Type 0
IsShardPlace q shard End = Unit {0}
IsShardPlace q shard (At job) = IsShardJob q shard (opening_job job)

-- a text that is accepted: the line, and a checkpoint text of either version with a position of the shard
pub record IsShardCheckpoint (shard : Shard) (text : Text) (c : Checkpoint) : Type 0 where
  pub check : Text
  pub accepted : IsCheckpointText check c
  pub place : IsShardPlace c.request shard c.at
  pub text_is : text ≡ shard_line shard ++ check

-- the text that is written for a checkpoint of a catalogue, or of the shard if there is one
abbrev pub IsSavedText : Option Shard → Checkpoint → Text → Type 0
IsSavedText None c text = IsCheckText c text
IsSavedText (Some shard) c text = IsShardCheck shard c text

-- a text that is accepted as one of a catalogue, or of the shard if there is one
abbrev pub IsAcceptedText : Option Shard → Text → Checkpoint → Type 0
IsAcceptedText None text c = IsCheckpointText text c
IsAcceptedText (Some shard) text c = IsShardCheckpoint shard text c
