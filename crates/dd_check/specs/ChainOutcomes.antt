-- What the bytes of a chain are in the end.
use Rattle.std.specs.Prelude.{◌≡◌, Option, Some}
use Rattle.dd_model.specs.Lists.{Begins}
use Rattle.dd_model.specs.Text.{beginning}
use Rattle.dd_front_jobs.specs.declared.portions.Portion.{Portion}
use Rattle.dd_front_jobs.specs.Portions.{IsPortionText}
use Rattle.dd_check.specs.declared.checkpoint.Checkpoint.{Checkpoint}
use Rattle.dd_check.specs.Texts.{Text}
use Rattle.dd_check.specs.ShardChecks.{IsSavedText}
use Rattle.dd_check.specs.Between.{AreFirstLines}

-- each text of the portion begins with the bytes
abbrev pub IsFront : Portion → Text → Type 0
IsFront p bytes = (text : Text) → IsPortionText p beginning 0 text → Begins bytes text

-- the name holds the text of a checkpoint, and the bytes are as many lines as it says
pub record IsCutAt (p : Portion) (held : Option Text) (bytes : Text) : Type 0 where
  pub check : Checkpoint
  pub text : Text
  pub held_is : held ≡ Some text
  pub is_text : IsSavedText p.shard check text
  pub first : AreFirstLines p check.lines bytes
