-- What is read of the lines of a text.
use Rattle.std.specs.Prelude.{◌≡◌, List, Result, MatchResult}
use Rattle.dd_check.specs.declared.checkpoint.Checkpoint.{Checkpoint}
use Rattle.dd_check.specs.declared.faults.CheckFault.{CheckFault}
use Rattle.dd_check.specs.Texts.{Text, lines_of}
use Rattle.dd_check.specs.Faults.{IsNew, IsOld}
use Rattle.dd_check.specs.Lines.{IsToldFault}
use Rattle.dd_check.specs.Accepted.{IsShortText, IsCheckpointText}
use Rattle.dd_check.specs.Refusals.{HasFault}

-- the lines of a text that is not too long
pub record AreShortLines (text : Text) (lines : List Text) : Type 0 where
  pub short : IsShortText text
  pub lines_are : lines ≡ lines_of text

-- the first of them is that of version 2
pub record AreNewLines (text : Text) (lines : List Text) : Type 0 where
  pub are : AreShortLines text lines
  pub new : IsNew lines

-- the first of them is that of version 1
pub record AreOldLines (text : Text) (lines : List Text) : Type 0 where
  pub are : AreShortLines text lines
  pub old : IsOld lines

-- the values of a checkpoint text, or the fault of a text
abbrev pub IsReading : Text → Result Checkpoint CheckFault → Type 0
IsReading text result = MatchResult result (IsCheckpointText text) (IsToldFault (HasFault text))
