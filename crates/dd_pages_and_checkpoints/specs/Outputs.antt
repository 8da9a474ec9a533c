-- What a run wrote, whatever stopped it.
use Rattle.std.specs.Prelude.{ℕ, ◌<◌, List, Option, Result, IfOk, length}
use Rattle.std.specs.Io.KnownBytes.{Appends}
use Rattle.dd_model.specs.Symbol.{Symbol}
use Rattle.dd_model.specs.Lists.{Begins}
use Rattle.dd_front_jobs.specs.Portions.{IsPortionText}
use Rattle.dd_front.specs.Step.{at_symbol}
use Rattle.dd_check.specs.Between.{AreLinesBetween}
use Rattle.dd_check.specs.ChainStarts.{Start}
use Rattle.dd_pages_and_checkpoints.specs.declared.finish.Finish.{Finish}
use Rattle.dd_pages_and_checkpoints.specs.Runs.{Finishes}

-- Known bytes grew by the output. The text from the start begins with it, and what it is at an end of the run's own.
pub record IsOutput {E : Type 0} (s : Start) (pause : Option ℕ) (old new : Option (List ℕ)) (result : Result Finish E) (output : List ℕ) : Type 0 where
  pub appended : Appends old new output
  pub front : (text : List ℕ) → IsPortionText s.portion s.at s.lines text → Begins output text
  pub finishes : IfOk result (Finishes s pause output)

-- the output has the line of a member, in whole or in part: the lines before it are shorter
pub record IsShown (s : Start) (output : List ℕ) (m : Symbol) : Type 0 where
  pub last : ℕ
  pub before : List ℕ
  pub lines : AreLinesBetween s.portion s.at (at_symbol m) s.lines last before
  pub shorter : length before < length output
